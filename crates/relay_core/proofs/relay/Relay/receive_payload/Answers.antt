use Rattle.relay_core.proofs.Words.{Ep, Fate, Relay, RelayTakesPayload, Step, Updates, heard_at, just, known_to, payload_view, refl, relay_fate_in, releases, subst, sym, trusted_at, ◌∙◌, ◌≡◌}
use Rattle.teredo_node.specs.declared.fate.Fate.TheVariants as fate
use Rattle.relay_core.proofs.Acts.{drops, released, passed_on, from_client_bubble, from_client, unserved}
use Rattle.relay_core.proofs.relay.Relay.receive_payload.Goals as goal

pub returns-in-Drop : goal.returns-in-Drop
returns-in-Drop c =
    let old = c.args.self.now in
    let n = c.args.now.0 in
    let v = payload_view c.args.payload.now in
    subst (λ (s : Step). RelayTakesPayload old n c.args.from v (relay_fate_in old n c.args.from v) s old) (sym c.reset.ensures)
    (subst (λ (f : Fate). RelayTakesPayload old n c.args.from v f (just c.in-Drop.fate) old) c.in-Drop.ensures.row
    (drops old n c.args.from v c.in-Drop.fate c.requires.callable.clock c.in-Drop.ensures.warrant))

pub returns-in-FromClientBubble : goal.returns-in-FromClientBubble
returns-in-FromClientBubble c =
    let old = c.args.self.now in
    let n = c.args.now.0 in
    let v = payload_view c.args.payload.now in
    let new : Relay = record old { peers = c.trust_and_hear.new.self } in
    let step : c.trust_and_hear.new.step ≡ released old n v fate.FromClientBubble = c.trust_and_hear.ensures.sends
    ∙ (λ i. record (c.reset-in-FromClientBubble.ensures i) { sends = releases (c.embedded-at.ensures i) (known_to old.peers n v.packet.src).waiting }) in
    subst (λ (s : Step). RelayTakesPayload old n c.args.from v (relay_fate_in old n c.args.from v) s new) (sym step)
    (subst (λ (f : Fate). RelayTakesPayload old n c.args.from v f (released old n v fate.FromClientBubble) new) c.in-FromClientBubble.ensures.row
    (from_client_bubble old new n c.args.from v (record {
      clock = c.requires.callable.clock;
      peers = subst (λ (at : Ep). Updates old.peers c.trust_and_hear.new.self n v.packet.src
          (heard_at n (trusted_at n at (known_to old.peers n v.packet.src)))) c.embedded-at.ensures c.trust_and_hear.ensures.heard;
      settings = refl;
    })))

pub returns-in-FromClient : goal.returns-in-FromClient
returns-in-FromClient c =
    let old = c.args.self.now in
    let n = c.args.now.0 in
    let v = payload_view c.args.payload.now in
    let new : Relay = record old { peers = c.trust_and_hear-in-FromClient.new.self } in
    let step : c.trust_and_hear-in-FromClient.new.step ≡ passed_on old n v = c.trust_and_hear-in-FromClient.ensures.sends
    ∙ (λ i. record (c.pass_on.ensures i) { sends = releases (c.embedded-at.ensures i) (known_to old.peers n v.packet.src).waiting }) in
    subst (λ (s : Step). RelayTakesPayload old n c.args.from v (relay_fate_in old n c.args.from v) s new) (sym step)
    (subst (λ (f : Fate). RelayTakesPayload old n c.args.from v f (passed_on old n v) new) c.in-FromClient.ensures.row
    (from_client old new n c.args.from v (record {
      clock = c.requires.callable.clock;
      peers = subst (λ (at : Ep). Updates old.peers c.trust_and_hear-in-FromClient.new.self n v.packet.src
          (heard_at n (trusted_at n at (known_to old.peers n v.packet.src)))) c.embedded-at.ensures
          c.trust_and_hear-in-FromClient.ensures.heard;
      settings = refl;
    })))

pub returns-in-Unserved : goal.returns-in-Unserved
returns-in-Unserved c =
    let old = c.args.self.now in
    let n = c.args.now.0 in
    let v = payload_view c.args.payload.now in
    let new : Relay = record old { peers = c.trust_and_hear-in-Unserved.new.self } in
    let step : c.trust_and_hear-in-Unserved.new.step ≡ released old n v fate.Unserved = c.trust_and_hear-in-Unserved.ensures.sends
    ∙ (λ i. record (c.reset-in-Unserved.ensures i) { sends = releases (c.embedded-at.ensures i) (known_to old.peers n v.packet.src).waiting }) in
    subst (λ (s : Step). RelayTakesPayload old n c.args.from v (relay_fate_in old n c.args.from v) s new) (sym step)
    (subst (λ (f : Fate). RelayTakesPayload old n c.args.from v f (released old n v fate.Unserved) new) c.in-Unserved.ensures.row
    (unserved old new n c.args.from v (record {
      clock = c.requires.callable.clock;
      peers = subst (λ (at : Ep). Updates old.peers c.trust_and_hear-in-Unserved.new.self n v.packet.src
          (heard_at n (trusted_at n at (known_to old.peers n v.packet.src)))) c.embedded-at.ensures
          c.trust_and_hear-in-Unserved.ensures.heard;
      settings = refl;
    })))
