use Rattle.client_core.proofs.Words.{Fate, Step, TakesPayload, advert_row, fate_in, hands_late, just, known_to, length, payload_view, refl, releases, settings_of, subst, sym, ◌∙◌, ◌≡◌}
use Rattle.teredo_node.specs.declared.fate.Fate.TheVariants as fate
use Rattle.client_core.proofs.Acts.{drops, heard_there, handed_there, rule1, rule1_bubble, rule2}
use Rattle.client_core.proofs.Transmitted.{short}
use Rattle.client_core.proofs.client.Client.receive_payload.Goals as goal

pub returns-in-Drop-clause-done : goal.returns-in-Drop-clause-done
returns-in-Drop-clause-done c =
    let old = c.args.self.now in
    let n = c.args.now.0 in
    let v = payload_view c.args.payload.now in
    let advert = advert_row (settings_of old) old.qualifier.now c.args.from v in
    subst (λ (s : Step). TakesPayload old n c.args.from v (fate_in old n c.args.from v) s old) (sym c.reset.ensures)
    (subst (λ (f : Fate). TakesPayload old n c.args.from v f (just c.in-Drop.fate) old) (c.in-Drop.ensures.row advert)
    (drops old n c.args.from v c.in-Drop.fate c.requires.callable.clock c.in-Drop.ensures.warrant))

pub returns-in-Rule1-clause-done : goal.returns-in-Rule1-clause-done
returns-in-Rule1-clause-done c =
    let old = c.args.self.now in
    let n = c.args.now.0 in
    let v = payload_view c.args.payload.now in
    let known = known_to old.peers n v.packet.src in
    let step : c.hear_trusted.new.step ≡ handed_there old n c.args.from v = c.hear_trusted.ensures.step ∙ (λ i. record (c.hand_over.ensures i) { sends = releases c.args.from known.waiting; gone = length known.held }) in
    subst (λ (s : Step). TakesPayload old n c.args.from v (fate_in old n c.args.from v) s c.hear_trusted.new.self) (sym step)
    (subst (λ (f : Fate). TakesPayload old n c.args.from v f (handed_there old n c.args.from v) c.hear_trusted.new.self) (c.in-Rule1.ensures.row (advert_row (settings_of old) old.qualifier.now c.args.from v))
    (rule1 old c.hear_trusted.new.self n c.args.from v c.hear_trusted.ensures.heard))

pub returns-in-Rule1Bubble-clause-done : goal.returns-in-Rule1Bubble-clause-done
returns-in-Rule1Bubble-clause-done c =
    let old = c.args.self.now in
    let n = c.args.now.0 in
    let v = payload_view c.args.payload.now in
    let known = known_to old.peers n v.packet.src in
    let new = c.hear_trusted-in-Rule1Bubble.new.self in
    let step : c.hear_trusted-in-Rule1Bubble.new.step ≡ heard_there old n c.args.from v fate.Rule1Bubble =
    c.hear_trusted-in-Rule1Bubble.ensures.step ∙ (λ i. record (c.reset-in-Rule1Bubble.ensures i)
    { sends = releases c.args.from known.waiting; gone = length known.held }) in
    subst (λ (s : Step). TakesPayload old n c.args.from v (fate_in old n c.args.from v) s new) (sym step)
    (subst (λ (f : Fate). TakesPayload old n c.args.from v f (heard_there old n c.args.from v fate.Rule1Bubble) new) (c.in-Rule1Bubble.ensures.row (advert_row (settings_of old) old.qualifier.now c.args.from v))
    (rule1_bubble old new n c.args.from v c.hear_trusted-in-Rule1Bubble.ensures.heard))

pub returns-in-Rule2-clause-done : goal.returns-in-Rule2-clause-done
returns-in-Rule2-clause-done c =
    let old = c.args.self.now in
    let n = c.args.now.0 in
    let v = payload_view c.args.payload.now in
    subst (λ (s : Step). TakesPayload old n c.args.from v (fate_in old n c.args.from v) s c.hand_late.new.self) (sym c.hand_late.ensures.step)
    (subst (λ (f : Fate). TakesPayload old n c.args.from v f (hands_late c.args.from (known_to old.peers n v.packet.src)) c.hand_late.new.self) (c.in-Rule2.ensures.row (advert_row (settings_of old) old.qualifier.now c.args.from v))
    (rule2 old c.hand_late.new.self n c.args.from v c.hand_late.ensures.heard))

pub hold_and_test-requires-clause-short : goal.hold_and_test-requires-clause-short
hold_and_test-requires-clause-short c = short c.args.packet.now (payload_view c.args.payload.now).packet (c.in-HeldTest.ensures.small refl) (sym c.requires.long)

pub hold_packet-requires-clause-short : goal.hold_packet-requires-clause-short
hold_packet-requires-clause-short c = short c.args.packet.now (payload_view c.args.payload.now).packet (c.in-Held.ensures.small refl) (sym c.requires.long)

pub returns-in-SuspiciousTest-clause-done : goal.returns-in-SuspiciousTest-clause-done
returns-in-SuspiciousTest-clause-done c =
    let old = c.args.self.now in
    let n = c.args.now.0 in
    let v = payload_view c.args.payload.now in
    subst (λ (f : Fate). TakesPayload old n c.args.from v f c.test_source.new.step c.test_source.new.self) (c.in-SuspiciousTest.ensures.row (advert_row (settings_of old) old.qualifier.now c.args.from v)) (c.test_source.ensures c.args.from)
