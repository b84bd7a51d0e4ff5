-- What natives send has their addresses as its source, so no Teredo source.
use Rattle.theory_origins.proofs.Words.{Bool, Entry, Fields, Full, HOST_HOP, Input, Ip6, IsActOf, IsBytes, IsGiven, IsMadeHistory, IsMadeItem, IsPacketItem, IsReply, Item, Lab, List, NamesRelay, NativeNode, Node, None, Option, Reaches, Some, [], all_at, ap, append_assoc, arrived, as_relay, delivered, drop, each_is_own_packet, each_is_reply, each_node, echo_reply, entry_input, false, false≢true, fields_in, from_six, given, hosted, input_of, is_packet, is_some, is_teredo, length, message_packet, native, native_packet, node_at, now, option_and_then, packet_bytes, packet_is_spelled, refl, relay_at, routes, same_ip6-true, six, subst, sym, take, take_at, ticked, ticks, true, udp, wire, wire_is_made, ℕ, ◌++◌, ◌∙◌, ◌≡◌}
use Rattle.theory_origins.proofs.Records.{Latest}

-- WHERE A PACKET'S SOURCE STANDS

src_at : (v : Fields) → length v.src.0 ≡ 16 → take 16 (drop 8 (packet_bytes v)) ≡ v.src.0
unfolding packet_bytes
src_at v long = ap (take 16) (append_assoc v.src.0 v.dst.0 v.body) ∙ take_at v.src.0 (v.dst.0 ++ v.body) 16 long

ip_of : List ℕ → Ip6
ip_of xs = record { 0 = xs }

-- a reply comes from where the request went
reply_source : (z y : List ℕ) → IsBytes z → is_packet z ≡ true → IsBytes y → is_packet y ≡ true → IsReply z y
    → (fields_in y).src ≡ (fields_in z).dst
unfolding ip_of
reply_source z y z_bytes came y_bytes one r =
    let of_z = packet_is_spelled z z_bytes came in
    let of_y = packet_is_spelled y y_bytes one in
    let v : Fields = message_packet HOST_HOP (fields_in z).dst (fields_in z).src (echo_reply r.id r.seq r.body) in
    let same : packet_bytes (fields_in y) ≡ packet_bytes v = sym of_y.1 ∙ r.reply in
    let octets : (fields_in y).src.0 ≡ (fields_in z).dst.0 =
    sym (src_at (fields_in y) of_y.0.src.0) ∙ ap (λ (xs : List ℕ). take 16 (drop 8 xs)) same ∙ src_at v of_z.0.dst.0 in
    ap ip_of octets

-- WHAT A NATIVE SENDS

module _ (l : Latest) where
  abbrev lab : Lab
  lab = l.lab

  abbrev H : List Full
  H = l.before

  abbrev r : Full
  r = l.full

  -- the packet that a native was brought
  record Brought (h : NativeNode) (z : List ℕ) : Type 0 where
    bytes : IsBytes z
    packet : is_packet z ≡ true
    own : (fields_in z).dst ≡ h.six

  brought : {n : ℕ} {h : NativeNode} (there : node_at lab.topology n ≡ Some (native h)) {dst : _} {i : Input} → IsGiven lab H r n (native h) dst i
      → (z : List ℕ) → i ≡ from_six z → Brought h z
  brought {n} {h} there (delivered number y told at goes moment where_to came) z e = by y (sym came ∙ e) (routes lab H (now H) y n (native h) goes)
      (all_at IsMadeItem (wire H) number y history.wire at)
      (all_at IsPacketItem (wire H) number y history.packets at) (all_at (NamesRelay lab.topology) (wire H) number y history.relays at)
    where
      history : IsMadeHistory lab H
      history = wire_is_made lab H l.is l.grown.1

      six_in : Input → List ℕ
      six_in (from_six x) = x
      six_in _ = []

      is_from_six : Input → Bool
      is_from_six (from_six x) = true
      is_from_six _ = false

      by : (y : Item) → input_of y ≡ from_six z → Reaches lab H (now H) y n (native h) → IsMadeItem y → IsPacketItem y
          → NamesRelay lab.topology y → Brought h z
      by (udp src to bytes) f reached made packet names = absurd (false≢true (ap is_from_six f))
      by (six None bytes) f reached made packet names =
          let same : bytes ≡ z = ap six_in f in
          record {
            bytes = subst IsBytes same made.bytes;
            packet = subst (λ (w : List ℕ). is_packet w ≡ true) same packet;
            own = ap (λ (x : List ℕ). (fields_in x).dst) (sym same) ∙ same_ip6-true (fields_in bytes).dst h.six reached.destination;
          }
      by (six (Some k) bytes) f reached made packet names =
          absurd (false≢true (ap (λ (o : Option Node). is_some (option_and_then as_relay o)) (sym there)
          ∙ ap (λ (j : ℕ). is_some (relay_at lab.topology j)) reached ∙ names))
  brought there (hosted v y hands none moment where_to came) z e = absurd (false≢true (ap is_given (sym (sym came ∙ e))))
    where
      is_given : Input → Bool
      is_given (given x) = true
      is_given _ = false
  brought there (ticks due least same none moment where_to came) z e = absurd (false≢true (ap is_tick (sym (sym came ∙ e))))
    where
      is_tick : Input → Bool
      is_tick ticked = true
      is_tick _ = false

  -- what a native sends has its address as its source
  pub native_source : {n : ℕ} {h : NativeNode} {e : Entry} {x : List ℕ} → IsActOf lab H r n (native h) e → native_packet h e.input ≡ Some x → IsBytes x
      → is_packet x ≡ true → (fields_in x).src ≡ h.six
  native_source {n} {h} {e} {x} act packet bytes one = by e.input packet (λ z f. brought act.there act.is_given z (sym input_is ∙ f)) where
    input_is : e.input ≡ act.input
    input_is = ap (λ (y : Entry). y.input) act.step ∙ entry_input lab H r.moment n act.dst act.input (native h)

    by : (i : Input) → native_packet h i ≡ Some x → ((z : List ℕ) → i ≡ from_six z → Brought h z) → (fields_in x).src ≡ h.six
    by (given z) f came =
        let own = each_is_own_packet h.six z x f in
        ap (λ (y : List ℕ). (fields_in y).src) own.same ∙ same_ip6-true (fields_in z).src h.six own.source
    by (from_six z) f came =
        let z_is = came z refl in
        reply_source z x z_is.bytes z_is.packet bytes one (each_is_reply z x f) ∙ z_is.own
    by (arrived from z) f came = absurd (false≢true (ap (λ (o : Option (List ℕ)). is_some o) f))
    by ticked f came = absurd (false≢true (ap (λ (o : Option (List ℕ)). is_some o) f))

  -- so no native sends a packet with a Teredo source
  pub not_native : {n : ℕ} {h : NativeNode} {e : Entry} {x : List ℕ} → IsActOf lab H r n (native h) e → native_packet h e.input ≡ Some x → IsBytes x
      → is_packet x ≡ true → is_teredo (fields_in x).src ≡ true → ⊥
  not_native {n} {h} {e} {x} act packet bytes one teredo = false≢true (sym (each_node lab.topology n (native h) l.is act.there).outside.other
      ∙ ap is_teredo (sym (native_source act packet bytes one)) ∙ teredo)
