-- Each packet for a relay is an echo reply, or from a host of the relay.
use Rattle.theory_storms.proofs.Words.{AllByRecursion, Bool, Entry, Ep, Full, Grown, Input, IsActOf, IsGiven, IsMadeItem, IsTopology, Item, Lab, List, MadeBy, NativeNode, None, Option, Some, TopologyState, [], all_at, all_joined, ap, arrived, by_client, by_native, by_relay, by_server, cond, delivered, each_is_own_packet, each_is_reply, entry_of, eq-eqb, false, false≢true, fields_in, from_nowhere, from_six, given, host_relay, hosted, input_of, is_echo_reply, is_node, is_of_relay, is_some, is_teredo, items_are_made, items_of, message_in, native, native_packet, refl, relay_for, same_ip6, six, subst, sym, ticked, ticks, to_six, true, udp, undelivered_from, was_delivered, wire, wire_is_made, ℕ, ◌+◌, ◌∙◌, ◌∷◌, ◌≡◌}
use Rattle.theory_storms.proofs.others.Natives.{reads_back}
use Rattle.theory_storms.proofs.relays.Hosts.{relay_of_host}

-- of an entry
abbrev pub IsOfHost : TopologyState → Item → Type 0
IsOfHost t (udp src dst bytes) = Unit {0}
IsOfHost t (six None bytes) = Unit {0}
IsOfHost t (six (Some n) bytes) = is_echo_reply (message_in (fields_in bytes)) ≡ false → is_of_relay t n (fields_in bytes) ≡ true

-- WHAT A HOST SENDS

-- a record of a native host
pub record HostActs (e : Entry) : Type 0 where
  pub lab : Lab
  pub H : List Full
  pub r : Full
  pub is : IsTopology lab.topology
  pub g : Grown lab (r ∷ H)
  pub n : ℕ
  pub h : NativeNode
  pub act : IsActOf lab H r n (native h) e

module _ {e : Entry} (host_acts : HostActs e) where
  open host_acts use {lab, H, r, is, g, n, h, act}

  abbrev t : TopologyState
  t = lab.topology

  abbrev Sends : List ℕ → Type 0
  Sends bytes = IsOfHost t (six (relay_for h bytes) bytes)

  -- its own packet, or an echo reply
  of_relay : (bytes : List ℕ) → (is_echo_reply (message_in (fields_in bytes)) ≡ false → host_relay t (fields_in bytes).src ≡ Some h.relay) → Sends bytes
  of_relay bytes f = by (is_teredo (fields_in bytes).dst) where
    by : (b : Bool) → IsOfHost t (six (cond b (Some h.relay) None) bytes)
    by false = tt
    by true = λ plain. ap (is_node h.relay) (f plain) ∙ eq-eqb h.relay h.relay refl

  -- where it was given this
  did : (dst : Ep) (i : Input) {bytes : List ℕ} → native_packet h (entry_of lab H r.moment n dst i (native h)).input ≡ Some bytes
      → ((x : List ℕ) → i ≡ from_six x → IsMadeItem (six None x)) → Sends bytes
  did dst (arrived from x) e made = absurd (false≢true (ap (λ (o : Option (List ℕ)). is_some o) e))
  did dst ticked e made = absurd (false≢true (ap (λ (o : Option (List ℕ)). is_some o) e))
  did dst (given x) {bytes} e made =
      let own = each_is_own_packet h.six x bytes e in
      of_relay bytes (λ _. relay_of_host t n h (fields_in bytes).src is act.there
      (ap (λ (y : List ℕ). same_ip6 (fields_in y).src h.six) own.same ∙ own.source))
  did dst (from_six x) {bytes} e made =
      let item = made x refl in
      let back = reads_back x bytes (record { bytes = item.bytes; short = item.short }) (each_is_reply x bytes e) in
      of_relay bytes (λ plain. absurd (false≢true (sym plain ∙ back.reply)))

  of_native : {bytes : List ℕ} → native_packet h e.input ≡ Some bytes → Sends bytes
  of_native {bytes} sends = did act.dst act.input (ap (λ (z : Entry). native_packet h z.input) (sym act.step) ∙ sends)
      (λ x came. by act.dst act.input act.is_given x came)
    where
      as_six : (x : List ℕ) (i : Item) → from_six x ≡ input_of i → IsMadeItem i → IsMadeItem (six None x)
      as_six x (udp src dst bytes) e made = absurd (false≢true (sym (ap is_six e)))
        where
          is_six : Input → Bool
          is_six (from_six y) = true
          is_six _ = false
      as_six x (six to bytes) e made = subst (λ (y : List ℕ). IsMadeItem (six None y)) (sym (ap bytes_in e))
          (record { source = tt; destination = tt; bytes = made.bytes; short = made.short })
        where
          bytes_in : Input → List ℕ
          bytes_in (from_six y) = y
          bytes_in _ = []

      by : (dst : Ep) (i : Input) → IsGiven lab H r n (native h) dst i → (x : List ℕ) → i ≡ from_six x → IsMadeItem (six None x)
      by dst i (delivered number y told at goes moment where_to came) x e =
          as_six x y (sym e ∙ came) (all_at IsMadeItem (wire H) number y (wire_is_made lab H is g.1).wire at)
      by dst i (hosted v y hands none moment where_to came) x e = absurd (false≢true (ap is_given (sym e ∙ came)))
        where
          is_given : Input → Bool
          is_given (given y) = true
          is_given _ = false
      by dst i (ticks due least same none moment where_to came) x e = absurd (false≢true (ap is_tick (sym e ∙ came)))
        where
          is_tick : Input → Bool
          is_tick ticked = true
          is_tick _ = false

-- WHAT IS ON THE WIRE

module _ (lab : Lab) where
  abbrev P : Item → Type 0
  P = IsOfHost lab.topology

  one : (H : List Full) (r : Full) → IsTopology lab.topology → Grown lab (r ∷ H) → (x : Item) → MadeBy lab H r x → P x
  one H r is g x (from_nowhere src dst bytes forges e) = subst P (sym e) tt
  one H r is g x (by_server n a f s act sends e) = subst P (sym e) tt
  one H r is g x (by_relay n a f s act sends e) = subst P (sym e) tt
  one H r is g x (by_client n c f s src act sends leaves e) = subst P (sym e) tt
  one H r is g x (by_native n h f bytes act packet e) = subst P (sym e) (of_native (record { lab = lab; H = H; r = r; is = is; g = g; n = n; h = h; act = act }) packet)
  one H r is g x (to_six n a f from bytes span act came packet e) = subst P (sym e) tt

  each : (H : List Full) (r : Full) → IsTopology lab.topology → Grown lab (r ∷ H) → (xs : List Item) → AllByRecursion (MadeBy lab H r) xs → AllByRecursion P xs
  each H r is g [] made = tt
  each H r is g (x ∷ xs) made = (one H r is g x made.0, each H r is g xs made.1)

  pub wire_of_hosts : (H : List Full) → IsTopology lab.topology → Grown lab H → AllByRecursion P (wire H)
  wire_of_hosts [] is g = tt
  wire_of_hosts (r ∷ H) is g = all_joined P (wire H) (items_of r) (wire_of_hosts H is g.1) (each H r is g (items_of r) (items_are_made lab H r g))

  undelivered_of : (H : List Full) (i : ℕ) (xs : List Item) → AllByRecursion P xs → AllByRecursion P (undelivered_from H i xs)
  undelivered_of H i [] all = tt
  undelivered_of H i (x ∷ xs) all = by (was_delivered i H) (undelivered_of H (i + 1) xs all.1) where
    by : (b : Bool) → AllByRecursion P (undelivered_from H (i + 1) xs)
        → AllByRecursion P (cond b (undelivered_from H (i + 1) xs) (x ∷ undelivered_from H (i + 1) xs))
    by true rest = rest
    by false rest = (all.0, rest)

  pub undelivered_of_hosts : (H : List Full) → IsTopology lab.topology → Grown lab H → AllByRecursion P (undelivered_from H 0 (wire H))
  undelivered_of_hosts H is g = undelivered_of H 0 (wire H) (wire_of_hosts H is g)
