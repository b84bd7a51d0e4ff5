-- What is on its way on the IPv6 side is a packet.
use Rattle.legal.proofs.Words.{Entry, Fields, Full, Grown, HEADER, HOST_HOP, Input, IsIp6, IsMadePacket, IsPacketItem, IsReply, Item, Lab, List, MadeBy, NativeNode, Some, Step, ap, arith, arrived, by_client, by_native, by_relay, by_server, each_is_own_packet, each_is_reply, each_reply_is_made, echo_reply, echo_request, entry_of, fields_in, from_nowhere, from_six, given, has_message, is_packet, length, message_packet, native, native_in, native_packet, none-some, packet_bytes, packet_is_spelled, packet_reads_back, subst, sym, ticked, to_six, true, ℕ, ◌++◌, ◌+◌, ◌∙◌, ◌∷◌, ◌≡◌}
use Rattle.std.proofs.lemmas.List.{length-append}
use Rattle.legal.proofs.Scenes.{Scene}
use Rattle.legal.proofs.MadeInputs.{IsShortInput, entry_input, act_made}
use Rattle.legal.proofs.GivesPacket.{each_gives_packet}

-- A REPLY

long_of : (v : Fields) → IsIp6 v.src → IsIp6 v.dst → length (packet_bytes v) ≡ HEADER + length v.body
unfolding packet_bytes
long_of v src dst =
    let whole = length-append (v.src.0 ++ v.dst.0) v.body in
    let both = length-append v.src.0 v.dst.0 in
    let from = src.0 in
    let to = dst.0 in
    omega (arith, whole, both, from, to)

reply_is_packet : (x y : List ℕ) → IsMadePacket x → (native_in x).packet ≡ Some y → is_packet y ≡ true
reply_is_packet x y made e =
    let r : IsReply x y = each_is_reply x y e in
    let ends = (packet_is_spelled x made.bytes (has_message x (echo_request r.id r.seq r.body) r.request)).0 in
    let v : Fields = message_packet HOST_HOP (fields_in x).dst (fields_in x).src (echo_reply r.id r.seq r.body) in
    let most = (each_reply_is_made x y made e).short in
    let long = ap length r.reply ∙ long_of v ends.dst ends.src in
    let back = packet_reads_back v (record {
      class = omega arith;
      flow = omega arith;
      next = omega arith;
      hop = omega arith;
      src = ends.dst;
      dst = ends.src;
      body = omega (arith, most, long);
    }) in
    ap is_packet r.reply ∙ back.is_one

-- WHAT A NATIVE SENDS

native_sends : (h : NativeNode) (input : Input) (y : List ℕ) → IsShortInput input → native_packet h input ≡ Some y → is_packet y ≡ true
native_sends h (given x) y made e = let is = each_is_own_packet h.six x y e in ap is_packet is.same ∙ is.packet
native_sends h (from_six x) y made e = reply_is_packet x y (record { bytes = made.made; short = made.short }) e
native_sends h (arrived from x) y made e = absurd (none-some y e)
native_sends h ticked y made e = absurd (none-some y e)

-- EACH

module _ (lab : Lab) (H : List Full) (scene : Scene lab H) (r : Full) (g : Grown lab (r ∷ H)) where
  pub is_packet_item : (x : Item) → MadeBy lab H r x → IsPacketItem x
  is_packet_item x (from_nowhere src dst bytes forged same) = subst IsPacketItem (sym same) tt
  is_packet_item x (by_server n a e s act c same) = subst IsPacketItem (sym same) tt
  is_packet_item x (by_relay n a e s act c same) = subst IsPacketItem (sym same) tt
  is_packet_item x (by_client n c e s src act held leaves same) = subst IsPacketItem (sym same) tt
  is_packet_item x (by_native n h e bytes act p same) =
      subst IsPacketItem (sym same) (native_sends h e.input bytes (act_made lab H scene r n (native h) e g.0.event act) p)
  is_packet_item x (to_six n a e from bytes span act came gives same) =
      let input : act.input ≡ arrived from bytes =
      sym (ap (λ (z : Entry). z.input) act.step ∙ entry_input lab H r.moment n act.dst act.input a) ∙ came in
      let step : e.step ≡ (entry_of lab H r.moment n act.dst (arrived from bytes) a).step =
      ap (λ (z : Entry). z.step) act.step ∙ ap (λ (i : Input). (entry_of lab H r.moment n act.dst i a).step) input in
      let packet = each_gives_packet lab H r.moment n act.dst from bytes a span (ap (λ (z : Step). z.six) (sym step) ∙ gives) in
      let made = (subst IsShortInput came (act_made lab H scene r n a e g.0.event act)).made.1 in
      subst IsPacketItem (sym same) (packet.reads made).is_one
