-- Each packet for a relay on the wire, so each that the relay is given, was sent by a native that names it.
use Rattle.theory_origins.proofs.Words.{AllByRecursion, Bool, Entry, Ep, Full, Grown, Input, IsActOf, IsBytes, IsGiven, IsMadeHistory, IsMadeItem, IsOfNative, IsPacketItem, IsTopology, Item, Lab, List, MadeBy, NativeNode, None, Reaches, RelayNode, Some, [], all_at, all_joined, all_map, all_right, ap, append_assoc, by_client, by_native, by_relay, by_server, cond, delivered, entry_input, false, false≢true, fields_in, from_nowhere, from_six, hosted, input_of, is_packet, is_teredo, items_are_made, items_of, native, native_packet, now, refl, relay, relay_for, routes, six, subst, sym, ticks, to_six, true, udp, wire, wire_is_made, ℕ, ◌++◌, ◌∙◌, ◌∷◌, ◌≡◌}
use Rattle.theory_origins.proofs.NativesSend.{native_source}

-- LATER

pub lasts : (lab : Lab) (later H : List Full) (j : ℕ) (x : List ℕ) → IsOfNative lab H j x → IsOfNative lab (later ++ H) j x
lasts lab later H j x of = record {
  number = of.number;
  host = of.host;
  there = of.there;
  names = of.names;
  source = of.source;
  sent = record {
    later = later ++ of.sent.later;
    record_of = of.sent.record_of;
    earlier = of.sent.earlier;
    split = ap (λ (z : List Full). later ++ z) of.sent.split ∙ sym (append_assoc later of.sent.later (of.sent.record_of ∷ of.sent.earlier));
    node = of.sent.node;
    entry = of.sent.entry;
    did = of.sent.did;
    packet = of.sent.packet;
  };
}

-- ONE ENTRY

abbrev pub IsForRelay : Lab → List Full → Item → Type 0
IsForRelay lab H (udp src dst bytes) = Unit {0}
IsForRelay lab H (six None bytes) = Unit {0}
IsForRelay lab H (six (Some j) bytes) = IsOfNative lab H j bytes

later_still : (lab : Lab) (r : Full) (H : List Full) (x : Item) → IsForRelay lab H x → IsForRelay lab (r ∷ H) x
later_still lab r H (udp src dst bytes) of = tt
later_still lab r H (six None bytes) of = tt
later_still lab r H (six (Some j) bytes) of = lasts lab (r ∷ []) H j bytes of

-- the latest record of a history of a topology that keeps its rules
pub record LatestRecord : Type 0 where
  pub lab : Lab
  pub H : List Full
  pub r : Full
  pub is : IsTopology lab.topology
  pub g : Grown lab (r ∷ H)

module _ (latest_record : LatestRecord) where
  open latest_record use {lab, H, r, is, g}

  abbrev P : Item → Type 0
  P = IsForRelay lab (r ∷ H)

  of_native : {n : ℕ} {h : NativeNode} {e : Entry} {bytes : List ℕ} → IsActOf lab H r n (native h) e → native_packet h e.input ≡ Some bytes
      → IsBytes bytes → is_packet bytes ≡ true → P (six (relay_for h bytes) bytes)
  of_native {n} {h} {e} {bytes} act packet made one = by (is_teredo (fields_in bytes).dst) where
    by : (b : Bool) → P (six (cond b (Some h.relay) None) bytes)
    by false = tt
    by true = record {
      number = n;
      host = h;
      there = act.there;
      names = refl;
      source = native_source (record { lab = lab; before = H; full = r; is = is; grown = g }) act packet made one;
      sent = record { later = []; record_of = r; earlier = H; split = refl; node = act.node; entry = e; did = act.entry; packet = packet };
    }

  one : (x : Item) → MadeBy lab H r x → IsMadeItem x → IsPacketItem x → P x
  one x (from_nowhere src dst bytes forges e) made packet = subst P (sym e) tt
  one x (by_server n a f s act sends e) made packet = subst P (sym e) tt
  one x (by_relay n a f s act sends e) made packet = subst P (sym e) tt
  one x (by_client n c f s src act sends leaves e) made packet = subst P (sym e) tt
  one x (by_native n h f bytes act sends e) made packet =
      subst P (sym e) (of_native act sends (subst IsMadeItem e made).bytes (subst IsPacketItem e packet))
  one x (to_six n a f from bytes span act came gives e) made packet = subst P (sym e) tt

  each : (xs : List Item) → AllByRecursion (MadeBy lab H r) xs → AllByRecursion IsMadeItem xs → AllByRecursion IsPacketItem xs → AllByRecursion P xs
  each [] by made packets = tt
  each (x ∷ xs) by made packets = (one x by.0 made.0 packets.0, each xs by.1 made.1 packets.1)

-- ALL OF THEM

pub wire_of_natives : (lab : Lab) (H : List Full) → IsTopology lab.topology → Grown lab H → AllByRecursion (IsForRelay lab H) (wire H)
wire_of_natives lab [] is g = tt
wire_of_natives lab (r ∷ H) is g =
    let history : IsMadeHistory lab (r ∷ H) = wire_is_made lab (r ∷ H) is g in
    let before = all_map (IsForRelay lab H) (IsForRelay lab (r ∷ H)) (wire H) (later_still lab r H) (wire_of_natives lab H is g.1) in
    all_joined (IsForRelay lab (r ∷ H)) (wire H) (items_of r) before
    (each (record { lab = lab; H = H; r = r; is = is; g = g }) (items_of r) (items_are_made lab H r g) (all_right IsMadeItem (wire H) (items_of r) history.wire)
    (all_right IsPacketItem (wire H) (items_of r) history.packets))

-- WHAT A RELAY WAS GIVEN

-- a packet on its way to relay j, of a native that names it
pub record IsRelays (lab : Lab) (E : List Full) (j : ℕ) (y : List ℕ) : Type 0 where
  pub packet : is_packet y ≡ true
  pub of : IsOfNative lab E j y

abbrev is_six_input : Input → Bool
is_six_input (from_six x) = true
is_six_input _ = false

abbrev six_in : List ℕ → Input → List ℕ
six_in d (from_six x) = x
six_in d _ = d

module _ {lab : Lab} (is : IsTopology lab.topology) {E : List Full} {r : Full} (g : Grown lab (r ∷ E)) (j : ℕ) (q : RelayNode) where
  pub given_six : {e : Entry} (y : List ℕ) → IsActOf lab E r j (relay q) e → e.input ≡ from_six y → IsRelays lab E j y
  given_six y act input =
      by act.dst act.input act.is_given (sym (ap (λ (z : Entry). z.input) act.step ∙ entry_input lab E r.moment j act.dst act.input (relay q)) ∙ input) where
        history : IsMadeHistory lab E
        history = wire_is_made lab E is g.1

        of_item : (item : Item) → input_of item ≡ from_six y → Reaches lab E (now E) item j (relay q) → IsPacketItem item → IsForRelay lab E item
            → IsRelays lab E j y
        of_item (udp src dst bytes) same reached packet of = absurd (false≢true (ap is_six_input same))
        of_item (six None bytes) same reached packet of = absurd reached
        of_item (six (Some k) bytes) same reached packet of =
            let all : bytes ≡ y = ap (six_in bytes) same in
            subst (IsRelays lab E j) all (record { packet = packet; of = subst (λ (i : ℕ). IsOfNative lab E i bytes) (sym reached) of })

        by : (dst : Ep) (i : Input) → IsGiven lab E r j (relay q) dst i → i ≡ from_six y → IsRelays lab E j y
        by dst i (delivered number item told at goes moment where_to came) same =
            of_item item (sym came ∙ same) (routes lab E (now E) item j (relay q) goes) (all_at IsPacketItem (wire E) number item history.packets at)
            (all_at (IsForRelay lab E) (wire E) number item (wire_of_natives lab E is g.1) at)
        by dst i (hosted v z hands none moment to came) same = absurd (false≢true (ap is_six_input (sym came ∙ same)))
        by dst i (ticks d due at none moment to came) same = absurd (false≢true (ap is_six_input (sym came ∙ same)))
