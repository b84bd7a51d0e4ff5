use Rattle.client_core.proofs.Words.{Peer, Step, TakesPayload, heard_at, known_to, payload_view, refl, releases, subst, sym, touch_goes_on, touched_at, trusted_at, ◌∙◌, ◌≡◌}
use Rattle.teredo_node.specs.declared.fate.Fate.TheVariants as fate
use Rattle.client_core.proofs.Acts.{released, rule3_bubble}
use Rattle.client_core.proofs.client.Client.admit_bubble.Goals as goal

pub trust_and_hear-requires-clause-listed : goal.trust_and_hear-requires-clause-listed
trust_and_hear-requires-clause-listed c =
    let known = known_to c.args.self.now.peers c.args.now.0 c.args.payload.now.packet.src in
    (touch_goes_on c.args.self.now.peers c.list.new.self c.args.now.0 c.args.payload.now.packet.src (touched_at c.args.now.0 known) refl c.in_ok-list.ensures.listed).listed

pub returns-clause-done : goal.returns-clause-done
returns-clause-done c =
    let n = c.args.now.0 in
    let v = payload_view c.args.payload.now in
    let old = c.args.self.now in
    let known = known_to old.peers n v.packet.src in
    let mid = touch_goes_on old.peers c.list.new.self n v.packet.src (touched_at n known) refl c.in_ok-list.ensures.listed in
    let step : c.trust_and_hear.new.step ≡ released old n c.args.from v fate.Rule3Bubble = c.trust_and_hear.ensures.sends ∙ (λ i. record (c.reset.ensures i) { sends = releases c.args.from (mid.known i).waiting }) in
    subst (λ (s : Step). TakesPayload old n c.args.from v fate.Rule3Bubble s (record old { peers = c.trust_and_hear.new.self })) (sym step)
    (rule3_bubble old (record old { peers = c.trust_and_hear.new.self }) n c.args.from v (record {
      clock = c.requires.callable.clock;
      peers = mid.next c.trust_and_hear.new.self (λ (p : Peer). heard_at n (trusted_at n c.args.from p)) c.trust_and_hear.ensures.heard;
      qualifier = refl;
      rng = refl;
    }))
