use Rattle.peer_list.proofs.Words.{None, Some, ap, cond, listings_of, sym, table_after, ◌∙◌}
use Rattle.peer_list.proofs.ListingLemmas.{nobody, somebody}
use Rattle.peer_list.proofs.table.Peers.find.Goals as goal

pub returns-in_err-peer : goal.returns-in_err-peer
returns-in_err-peer c =
    rw (c.from_residual.ensures, ← c.self.view_is) (nobody (table_after c.self.inside.moment.0 c.self.inside.latest (listings_of c.self.inside.entries)) c.args.now.0 c.args.who (sym c.in_err-peer.ensures))

pub returns-then-not-is_listed : goal.returns-then-not-is_listed
returns-then-not-is_listed c =
    rw (← c.self.view_is) (ap (λ b. cond b (Some c.in_ok-peer.peer.now) None) c.if-not-is_listed.ensures
    ∙ somebody (table_after c.self.inside.moment.0 c.self.inside.latest (listings_of c.self.inside.entries)) c.args.now.0 c.args.who c.in_ok-peer.peer.now (sym c.in_ok-peer.ensures))

pub returns : goal.returns
returns c =
    rw (← c.self.view_is) (ap (λ b. cond b (Some c.in_ok-peer.peer.now) None) c.if-not-is_listed.ensures
    ∙ somebody (table_after c.self.inside.moment.0 c.self.inside.latest (listings_of c.self.inside.entries)) c.args.now.0 c.args.who c.in_ok-peer.peer.now (sym c.in_ok-peer.ensures))
