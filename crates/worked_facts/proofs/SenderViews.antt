-- Who made an entry that brought a packet from outside Teredo: a relay, for a native host that had sent it, or a named event.
use Rattle.worked_facts.proofs.Words.{Entry, Ep, Full, IsFromOutside, IsOfNative, Lab, List, NativeNode, None, Option, PutsFrom, RelayNode, SentByNative, Some, [], ap, drop, length, node_at, refl, relay, subst, sym, take, take-append-drop, wire, ℕ, ◌++◌, ◌<◌, ◌∙◌, ◌∷◌, ◌≡◌, ◌≤◌}
use Rattle.legal.specs.Emit.{native_packet}
use Rattle.theory_origins.specs.FromOutside.{put, relayed}

-- WHO SENT IT

abbrev pub NativeSends : NativeNode → List ℕ → Option Entry → Type 0
NativeSends h x None = ⊥
NativeSends h x (Some e) = native_packet h e.input ≡ Some x

-- by the latest record native i, which is h, sent x
abbrev pub SentLatest : ℕ → NativeNode → List ℕ → List Full → Type 0
SentLatest i h x [] = ⊥
SentLatest i h x (r ∷ earlier) = (r.node ≡ Some i) × NativeSends h x r.entry

-- so was it at the record before k later ones
pub sent_at : (i : ℕ) (h : NativeNode) (x : List ℕ) (k : ℕ) (H : List Full) → SentLatest i h x (drop k H) → SentByNative H i h x
sent_at i h x k H latest = by (drop k H) (sym (take-append-drop k H)) latest where
  of_entry : (r : Full) (earlier : List Full) (o : Option Entry) → H ≡ take k H ++ r ∷ earlier → r.entry ≡ o → r.node ≡ Some i → NativeSends h x o
      → SentByNative H i h x
  of_entry r earlier None split did node sends = absurd sends
  of_entry r earlier (Some e) split did node sends =
      record { later = take k H; record_of = r; earlier = earlier; split = split; node = node; entry = e; did = did; packet = sends }

  by : (rest : List Full) → H ≡ take k H ++ rest → SentLatest i h x rest → SentByNative H i h x
  by [] split none = absurd none
  by (r ∷ earlier) split (node, sends) = of_entry r earlier r.entry split refl node sends

-- the latest record made entry k, and it is relay j's
abbrev pub RelayedLatest : (k j : ℕ) → List Full → Type 0
RelayedLatest k j [] = ⊥
RelayedLatest k j (maker ∷ earlier) = (length (wire earlier) ≤ k) × (k < length (wire (maker ∷ earlier))) × (maker.node ≡ Some j)

-- so was it at the record before i later ones, by when a native host had sent x that names the relay
pub relayed_at : (lab : Lab) (k j : ℕ) (r : RelayNode) → node_at lab.topology j ≡ Some (relay r) → (x : List ℕ) (i : ℕ) (H : List Full)
    → RelayedLatest k j (drop i H) → IsOfNative lab (drop i H) j x → (from : Ep) → from ≡ r.at → IsFromOutside lab H k from x
relayed_at lab k j r there x i H latest of_native from same = by (drop i H) refl latest where
  by : (rest : List Full) → drop i H ≡ rest → RelayedLatest k j rest → IsFromOutside lab H k from x
  by [] is none = absurd none
  by (maker ∷ earlier) is (begins, ends, node) =
      let split = sym (take-append-drop i H) ∙ ap (λ (z : List Full). take i H ++ z) is in
      relayed (take i H) earlier maker (record { split = split; begins = begins; ends = ends }) j r node there same
      (subst (λ (z : List Full). IsOfNative lab z j x) is of_native)

-- or it is a named event's
abbrev pub PutLatestFrom : ℕ → Ep → List Full → Type 0
PutLatestFrom k from [] = ⊥
PutLatestFrom k from (maker ∷ earlier) = (length (wire earlier) ≤ k) × (k < length (wire (maker ∷ earlier))) × PutsFrom maker.asked from

pub put_at : (lab : Lab) (k : ℕ) (x : List ℕ) (i : ℕ) (H : List Full) (from : Ep) → PutLatestFrom k from (drop i H) → IsFromOutside lab H k from x
put_at lab k x i H from latest = by (drop i H) (sym (take-append-drop i H)) latest where
  by : (rest : List Full) → H ≡ take i H ++ rest → PutLatestFrom k from rest → IsFromOutside lab H k from x
  by [] split none = absurd none
  by (maker ∷ earlier) split (begins, ends, puts) = put (take i H) earlier maker (record { split = split; begins = begins; ends = ends }) puts
