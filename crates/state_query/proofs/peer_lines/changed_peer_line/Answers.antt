use Rattle.std.proofs.Common.{Some, sym, ap, subst, ℕ, ◌∙◌, ◌∷◌}
use Rattle.teredo_node.specs.declared.fate.Fate.{Fate}
use Rattle.client_rules.specs.Bearings.{mentions}
use Rattle.relay_rules.specs.Bearings.{relay_mentions}
use Rattle.legal.specs.Past.{journal, words}
use Rattle.legal.specs.Settings.{client_settings, relay_settings}
use Rattle.lab_nodes.specs.declared.played_node.PlayedNode.{PlayedNode}
use Rattle.lab_nodes.specs.declared.played_node.PlayedNode.TheVariants as played
use Rattle.lab_nodes.specs.PlayedNode.{row_of}
use Rattle.world.specs.World.{lab_in}
use Rattle.topology.specs.declared.node.Node.TheVariants as rows
use Rattle.states.specs.Facts.{client_knows, relay_knows}
use Rattle.states.specs.PeerFates.{changes_peer, changes_client, IsOnLatestIf}
use Rattle.states.proofs.LawProofs.{latest_is_concerned}
use Rattle.state_query.specs.PeerFacts.{changed_facts}
use Rattle.state_query.proofs.peer_lines.changed_peer_line.Goals as goal

pub returns-in-Client-clause-line : goal.returns-in-Client-clause-line
returns-in-Client-clause-line c = λ d r H s node is.
    let n = c.args.number in
    let w = c.args.world.now in
    let there = sym c.in-Some.ensures.row ∙ ap (λ (p : PlayedNode). Some (row_of p)) c.in-Client.is in
    let kept = s.nodes.each n (played.Client c.in-Client.row c.in-Client.client) (sym c.in-Some.ensures.kept ∙ ap (λ (p : PlayedNode). Some p) c.in-Client.is) in
    let one = latest_is_concerned (lab_in d w) H r n (rows.Client c.in-Client.row) s.grown.0 node there in
    let facts = changed_facts r (journal n (r ∷ H)) (Some (rows.Client c.in-Client.row)) in
    let told_by = subst (λ (f : Fate). IsOnLatestIf (changes_peer f) client_knows (mentions (journal n (r ∷ H)).entries) r.moment facts) is one in
    let of_fate = subst (λ (m : ℕ). IsOnLatestIf (changes_peer c.args.fate) client_knows (mentions (journal n (r ∷ H)).entries) m facts) (sym (c.moment.ensures.kept d (r ∷ H) s)) told_by in
    let line = c.client_changed_line.ensures.line (client_settings w.topology c.in-Client.row) (journal n (r ∷ H)) (words (lab_in d w) n (r ∷ H)) facts kept of_fate in
    let told = rw (c.topology.ensures, c.moment.ensures.value) at line in
    rw there told

pub returns-in-Relay-clause-line : goal.returns-in-Relay-clause-line
returns-in-Relay-clause-line c = λ d r H s node is.
    let n = c.args.number in
    let w = c.args.world.now in
    let there = sym c.in-Some.ensures.row ∙ ap (λ (p : PlayedNode). Some (row_of p)) c.in-Relay.is in
    let kept = s.nodes.each n (played.Relay c.in-Relay.row c.in-Relay.relay) (sym c.in-Some.ensures.kept ∙ ap (λ (p : PlayedNode). Some p) c.in-Relay.is) in
    let one = latest_is_concerned (lab_in d w) H r n (rows.Relay c.in-Relay.row) s.grown.0 node there in
    let facts = changed_facts r (journal n (r ∷ H)) (Some (rows.Relay c.in-Relay.row)) in
    let told_by = subst (λ (f : Fate). IsOnLatestIf (changes_client f) relay_knows (relay_mentions (journal n (r ∷ H)).entries) r.moment facts) is one in
    let of_fate = subst (λ (m : ℕ). IsOnLatestIf (changes_client c.args.fate) relay_knows (relay_mentions (journal n (r ∷ H)).entries) m facts) (sym (c.moment.ensures.kept d (r ∷ H) s)) told_by in
    let line = c.relay_changed_line.ensures.line (relay_settings w.topology n c.in-Relay.row) (journal n (r ∷ H)).entries facts kept of_fate in
    let told = rw (c.topology-in-Relay.ensures, c.moment.ensures.value) at line in
    rw there told
