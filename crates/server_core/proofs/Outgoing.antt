-- What a server sends, by the rules.
use Rattle.server_core.proofs.Words.{Advert, AllByRecursion, Bool, DATAGRAM_MAX, Dropped, EachIsFromClient, EachIsOutgoing, EachOutputIsMade, Ep, Err, Forward, ForwardOrigin, HEADER, IfSome, IsBytes, IsBytes-append, IsBytes-drop, IsEp, IsFromClient, IsMadeSend, IsOutgoing, IsPassedOn, List, None, Ok, Option, PACKET_MAX, PayloadFault, ReadsPayload, Result, Rule, RuledOnlyIf, ServerSettings, Side, Six, Some, Value, advert_bytes, adverts, all_map, ap, arith, by_payload, drop, embedded, false, false≢true, forwarded, goes_to_other, goes_to_own, indications_bytes, is_big, is_forged, is_ok_payload, is_payload, is_teredo, lead_is_bytes, length, length-append, link_local_tells, nonce_of, not, origin_len, packet_bytes, packet_is_bytes, payload_at, payload_is_spelled, refl, rule_of, same_ep, same_ep-true, server_ep, server_link_local, server_row, server_seen, short_body, step_of, subst, sym, true, value_in, value_or, value_written, ℕ, ◌&&◌, ◌+◌, ◌∙◌, ◌≡◌, ◌≤◌}
use Rattle.server_core.proofs.ReadsBack.{spelled_is, Came, came, may_answer, advert_reads_back, forwarded_reads_back}
pub use Rattle.server_core.proofs.ReadsBack.{Told, told}
use Rattle.server_core.proofs.Lengths.{nonce_len_most}
use Rattle.teredo_node.specs.Step.{Send}
use Rattle.server_core.proofs.Warranted.{rule_is_warranted}

-- EACH SEND

by_rule : (s : ServerSettings) (side : Side) (from : Ep) (x : List ℕ) (v : Value) (r : Rule) → RuledOnlyIf r (server_seen s from v) → AllByRecursion (IsOutgoing s side from x v) (step_of s side from x v r).sends
by_rule s side from x v (Dropped f) w = tt
by_rule s side from x v Advert w = (adverts w refl, tt)
by_rule s side from x v ForwardOrigin w = (goes_to_own w refl, tt)
by_rule s side from x v Forward w = (goes_to_other w refl, tt)
by_rule s side from x v Six w = tt

pub each_is_outgoing : EachIsOutgoing
unfolding server_row
each_is_outgoing s side from x v e = subst (λ (r : Result Value PayloadFault). AllByRecursion (IsOutgoing s side from x v) (by_payload s side from x r).sends) (sym e) (by_rule s side from x v (rule_of s from v) (rule_is_warranted s from v))

-- WHERE ITS PACKETS COME FROM

pub unforged_from : (from : Ep) (v : Value) → is_forged from v.packet ≡ false → is_teredo v.packet.src ≡ true → from ≡ embedded v.packet.src
unfolding is_forged
unforged_from from v h teredo = sym (same_ep-true (embedded v.packet.src) from (by (is_teredo v.packet.src) (same_ep (embedded v.packet.src) from) teredo h)) where
  by : (b c : Bool) → b ≡ true → b && not c ≡ false → c ≡ true
  by true true is g = refl
  by true false is g = absurd (false≢true (sym g))
  by false c is g = absurd (false≢true is)

went_on : (s : ServerSettings) (from : Ep) (v : Value) (origin : Option Ep) (send : Send) → IsPassedOn (server_seen s from v) → ReadsPayload (value_written None origin v.packet) send.bytes → IsFromClient s from send
went_on s from v origin send on reads =
    let same : (value_in send.bytes).packet ≡ v.packet = ap (λ (w : Value). w.packet) reads.value in
    record {
      embeds = λ teredo. unforged_from from v on.unforged (ap (λ p. is_teredo p.src) (sym same) ∙ teredo) ∙ ap (λ p. embedded p.src) (sym same);
      elsewhere = on.sound.foreign;
    }

of_send : (s : ServerSettings) (side : Side) (from : Ep) (x : List ℕ) (v : Value) (send : Send) → Came s from x v → IsOutgoing s side from x v send → IsFromClient s from send
of_send s side from x v send c (adverts answered is) =
    let reads = advert_reads_back s from (nonce_of v.lead) v.packet.src (may_answer c) in
    let bytes : send.bytes ≡ advert_bytes s from (nonce_of v.lead) v.packet.src = ap (λ (z : Send). z.bytes) is in
    let src : (value_in send.bytes).packet.src ≡ server_link_local s = ap (λ (y : List ℕ). (value_in y).packet.src) bytes ∙ ap (λ (w : Value). w.packet.src) reads.payload.value in
    record {
      embeds = λ teredo. absurd (false≢true (sym (link_local_tells true (server_ep s.primary) (c.primary, omega arith)).not_teredo ∙ ap is_teredo (sym src) ∙ teredo));
      elsewhere = answered.sound.foreign;
    }
of_send s side from x v send c (goes_to_own on is) =
    went_on s from v (Some from) send on.on (subst (λ (y : List ℕ). ReadsPayload (value_written None (Some from) v.packet) y) (sym (ap (λ (z : Send). z.bytes) is))
    (forwarded_reads_back x v (Some from) c.bytes c.read on.on.sound.short c.origin))
of_send s side from x v send c (goes_to_other on is) =
    went_on s from v None send on.on (subst (λ (y : List ℕ). ReadsPayload (value_written None None v.packet) y) (sym (ap (λ (z : Send). z.bytes) is)) (forwarded_reads_back x v None c.bytes c.read on.on.sound.short tt))

-- each datagram that is sent for a payload
module _ (P : Send → Type 0) (s : ServerSettings) (side : Side) (from : Ep) (x : List ℕ) where
  pub of_read : ((v : Value) → payload_at x ≡ Ok v → (send : Send) → IsOutgoing s side from x v send → P send) → (r : Result Value PayloadFault) → payload_at x ≡ r → AllByRecursion P (by_payload s side from x r).sends
  of_read each (Err f) e = tt
  of_read each (Ok v) e = all_map (IsOutgoing s side from x v) P (step_of s side from x v (rule_of s from v)).sends (each v e) (by_rule s side from x v (rule_of s from v) (rule_is_warranted s from v))

pub each_is_from_client : EachIsFromClient
unfolding server_row
each_is_from_client s side from x primary origin fits =
    of_read (IsFromClient s from) s side from x (λ v e send. of_send s side from x v send (came s from x v primary origin fits e)) (payload_at x) refl

-- BYTES

-- at most eight bytes stand in front of what goes on
goes_on_made : (x : List ℕ) (v : Value) (origin : Option Ep) → IsBytes x → payload_at x ≡ Ok v → is_big v.packet ≡ false → IfSome origin IsEp → origin_len origin ≤ 8
    → IsBytes (forwarded origin (drop v.lead.at x)) × (length (forwarded origin (drop v.lead.at x)) ≤ DATAGRAM_MAX)
unfolding forwarded is_payload value_in
goes_on_made x v origin fits e small fine few =
    let lead = lead_is_bytes None origin (record { nonce_fits = tt; origin_fits = fine }) in
    let spelled = payload_is_spelled x fits (ap is_ok_payload e) in
    let tail : drop v.lead.at x ≡ packet_bytes v.packet = subst (λ (w : Value). drop w.lead.at x ≡ packet_bytes w.packet) (ap value_or e) spelled.packet in
    let is = spelled_is x v fits e in
    let len = (packet_is_bytes v.packet is.is_packet.0).long in
    let long : length (drop v.lead.at x) ≡ HEADER + length v.packet.body = ap (λ (y : List ℕ). length y) tail ∙ len in
    let whole = length-append (indications_bytes None origin) (drop v.lead.at x) in
    let most : HEADER + length v.packet.body ≤ PACKET_MAX = short_body v.packet small in
    (IsBytes-append (indications_bytes None origin) (drop v.lead.at x) lead.bytes (IsBytes-drop v.lead.at x fits), omega (arith, lead.long, long, whole, most, few))

made_send : (s : ServerSettings) (side : Side) (from : Ep) (x : List ℕ) (v : Value) (send : Send) → Came s from x v → IsOutgoing s side from x v send → IsMadeSend send
made_send s side from x v send c (adverts answered is) =
    let reads = advert_reads_back s from (nonce_of v.lead) v.packet.src (may_answer c) in
    let most = nonce_len_most (nonce_of v.lead) in
    subst (λ (z : Send). IsMadeSend z) (sym is) (record { bytes = reads.bytes; short = omega (arith, reads.long, most) })
made_send s side from x v send c (goes_to_own on is) =
    let m = goes_on_made x v (Some from) c.bytes c.read on.on.sound.short c.origin (omega arith) in
    subst (λ (z : Send). IsMadeSend z) (sym is) (record { bytes = m.0; short = m.1 })
made_send s side from x v send c (goes_to_other on is) =
    let m = goes_on_made x v None c.bytes c.read on.on.sound.short tt (omega arith) in
    subst (λ (z : Send). IsMadeSend z) (sym is) (record { bytes = m.0; short = m.1 })

pub each_output_is_made : EachOutputIsMade
unfolding server_row
each_output_is_made s side from x primary origin fits =
    of_read IsMadeSend s side from x (λ v e send. made_send s side from x v send (came s from x v primary origin fits e)) (payload_at x) refl
