use Rattle.follow_writer.proofs.Words.{PlayedNode, Some, ap, journal, latest_peer_of, row_of, sym, ◌∙◌}
use Rattle.lab_nodes.specs.declared.played_node.PlayedNode.TheVariants as played
use Rattle.follow_writer.proofs.told.latest_of.Goals as goal

pub returns-in-Client : goal.returns-in-Client
returns-in-Client c = λ d H s.
    let n = c.args.number in
    let there = sym c.in-Some.ensures.row ∙ ap (λ (p : PlayedNode). Some (row_of p)) c.in-Client.is in
    let kept = s.nodes.each n (played.Client c.in-Client.row c.in-Client.client) (sym c.in-Some.ensures.kept ∙ ap (λ (p : PlayedNode). Some p) c.in-Client.is) in
    c.latest_peer.ensures (journal n H) kept.stands ∙ sym (ap (latest_peer_of (journal n H)) there)

pub returns-in-Relay : goal.returns-in-Relay
returns-in-Relay c = λ d H s.
    let n = c.args.number in
    let there = sym c.in-Some.ensures.row ∙ ap (λ (p : PlayedNode). Some (row_of p)) c.in-Relay.is in
    let kept = s.nodes.each n (played.Relay c.in-Relay.row c.in-Relay.relay) (sym c.in-Some.ensures.kept ∙ ap (λ (p : PlayedNode). Some p) c.in-Relay.is) in
    c.latest_peer-in-Relay.ensures (journal n H).entries kept.stands ∙ sym (ap (latest_peer_of (journal n H)) there)
