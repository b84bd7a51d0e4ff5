use Rattle.peer_list.proofs.Words.{ap, due_and_who, listings_of, option_map, table_after, ◌∙◌}
use Rattle.peer_list.proofs.TableLemmas.{other_first}
use Rattle.peer_list.proofs.SettleLemmas.{earlier}
use Rattle.peer_list.proofs.TimelyLemmas.{first_lasts, timely_after}
use Rattle.peer_list.proofs.table.Peers.due.Goals as goal

pub returns-clause-first : goal.returns-clause-first
returns-clause-first c = rw (← c.self.view_is) (c.due.ensures ∙ ap (option_map due_and_who) (other_first c.args.now.0 c.self.inside.moment.0 c.self.inside.latest c.args.now.0 (listings_of c.self.inside.entries)))

pub returns-clause-lasts : goal.returns-clause-lasts
returns-clause-lasts c =
    let e = c.self.inside.entries in
    let k = c.self.inside.moment.0 in
    let first = c.due.ensures ∙ ap (option_map due_and_who) (other_first c.args.now.0 k c.self.inside.latest c.args.now.0 (listings_of e)) in
    rw (← c.self.view_is) (first_lasts (table_after k c.self.inside.latest (listings_of e))
    c.args.now.0 (timely_after k c.self.inside.latest (listings_of e) c.self.invariant.timely) (earlier e _ _ _ c.self.view_is c.requires.clock) c.due.result first)
