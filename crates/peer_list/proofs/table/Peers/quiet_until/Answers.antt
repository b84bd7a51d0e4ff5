use Rattle.peer_list.proofs.Words.{IsNoSooner, ap, due_moment, listings_of, option_map, subst}
use Rattle.peer_list.proofs.TableLemmas.{other_first}
use Rattle.peer_list.proofs.table.Peers.quiet_until.Goals as goal

pub returns-clause-none : goal.returns-clause-none
returns-clause-none c m late n = rw (← c.self.view_is)
    (subst (IsNoSooner m) (ap (option_map due_moment) (other_first n c.self.inside.moment.0 c.self.inside.latest n (listings_of c.self.inside.entries))) (c.quiet_until.ensures.none m late n))

pub returns-clause-some : goal.returns-clause-some
returns-clause-some c m early =
    let due = c.quiet_until.ensures.some m early c.self.inside.moment.0 in
    rw (← c.self.view_is) (record { listing = due.listing; kept = due.kept; waits = due.waits; before = due.before })
