use Rattle.std.proofs.Common.{Some, sym, ap, ◌∙◌}
use Rattle.legal.specs.Past.{journal, words}
use Rattle.legal.specs.Settings.{client_settings, relay_settings}
use Rattle.lab_nodes.specs.declared.played_node.PlayedNode.{PlayedNode}
use Rattle.lab_nodes.specs.declared.played_node.PlayedNode.TheVariants as played
use Rattle.lab_nodes.specs.PlayedNode.{row_of}
use Rattle.world.specs.World.{lab_in}
use Rattle.state_query.proofs.peer_lines.peer_line.Goals as goal

pub returns-in-Client-clause-line : goal.returns-in-Client-clause-line
returns-in-Client-clause-line c = λ d H s.
    let n = c.args.number in
    let there = sym c.in-Some.ensures.row ∙ ap (λ (p : PlayedNode). Some (row_of p)) c.in-Client.is in
    let kept = s.nodes.each n (played.Client c.in-Client.row c.in-Client.client) (sym c.in-Some.ensures.kept ∙ ap (λ (p : PlayedNode). Some p) c.in-Client.is) in
    let line = c.client_knows_line.ensures.line (client_settings c.args.world.now.topology c.in-Client.row) (journal n H) (words (lab_in d c.args.world.now) n H) kept in
    let told = rw (c.topology.ensures, c.moment.ensures.value) at line in
    rw there told

pub returns-in-Relay-clause-line : goal.returns-in-Relay-clause-line
returns-in-Relay-clause-line c = λ d H s.
    let n = c.args.number in
    let there = sym c.in-Some.ensures.row ∙ ap (λ (p : PlayedNode). Some (row_of p)) c.in-Relay.is in
    let kept = s.nodes.each n (played.Relay c.in-Relay.row c.in-Relay.relay) (sym c.in-Some.ensures.kept ∙ ap (λ (p : PlayedNode). Some p) c.in-Relay.is) in
    let line = c.relay_knows_line.ensures.line (relay_settings c.args.world.now.topology n c.in-Relay.row) (journal n H).entries kept in
    let told = rw (c.topology-in-Relay.ensures, c.moment.ensures.value) at line in
    rw there told
