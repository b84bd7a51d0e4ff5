-- What a record brings to a native host, or to the host of a client; and that none brings anything there.
use Rattle.worked_facts.proofs.Words.{Bool, BringsToNative, BringsWithin, ClientNode, Contains, Entry, Full, GivesToHost, Input, IsWithin, List, NativeNode, Option, Some, SomeIs, [], and_parts, ap, arith, client, false≢true, from_six, inl, inr, is_none, is_some, length, native, not, option_map, refl, slice_get, subst, suc, sym, take, true, unwrap_or, within_longer, zero, ℕ, ◌&&◌, ◌+◌, ◌<◌, ◌∙◌, ◌∷◌, ◌≡◌, ◌≤◌, ◌⊎◌}
use Rattle.worked_facts.proofs.NativeViews.{was_given}
use Rattle.worked_facts.proofs.WordViews.{seen_at}

-- WHERE IT COMES

-- what a node was given, by the record behind the latest ones, so many
pub record Brought : Type 0 where
  pub node : Option ℕ
  pub input : Option Input

abbrev pub brought_of : Full → Brought
brought_of q = record { node = q.node; input = option_map (λ (e : Entry). e.input) q.entry }

abbrev pub brought : ℕ → List Full → Option Brought
brought j H = option_map brought_of (slice_get H j)

-- and what its host was handed, at once and late
pub record HandedOver : Type 0 where
  pub node : Option ℕ
  pub handed : Option (List ℕ)
  pub late : List (List ℕ)

abbrev pub handed_of : Full → HandedOver
handed_of q = record { node = q.node; handed = q.handed; late = q.late }

abbrev pub handed_over : ℕ → List Full → Option HandedOver
handed_over j H = option_map handed_of (slice_get H j)

short_take : (i : ℕ) (H : List Full) → length (take i H) ≤ i
short_take zero H = omega arith
short_take (suc i) [] = omega arith
short_take (suc i) (r ∷ H) = omega (arith, short_take i H)

-- of the latest ones, so many, this one comes by so many deliveries
within_at : (P : Full → Type 0) (most i j : ℕ) → j < i → i ≤ j + most → (H : List Full) (q : Full) → slice_get H j ≡ Some q → P q
    → IsWithin most P (take i H)
within_at P most zero j low few H q at p = absurd (omega (arith, low))
within_at P most (suc i) j low few [] q at p = absurd (false≢true (ap (λ (o : Option Full). is_some o) at))
within_at P most (suc i) zero low few (r ∷ H) q at p = record {
  rest = [];
  first = r ∷ take i H;
  split = refl;
  few = omega (arith, few, short_take i H);
  comes = inl (subst P (sym (ap (λ (o : Option Full). unwrap_or o r) at)) p);
}
within_at P most (suc i) (suc j) low few (r ∷ H) q at p =
    within_longer P most r (take i H) (within_at P most i j (omega (arith, low)) (omega (arith, few)) H q at p)

-- it brings x to a native host
pub record IsToNative (m : ℕ) (x : List ℕ) (b : Brought) : Type 0 where
  pub node : b.node ≡ Some m
  pub input : b.input ≡ Some (from_six x)

pub comes_to_native : (most i j : ℕ) → j < i → i ≤ j + most → (m : ℕ) (h : NativeNode) (x : List ℕ) (b : Brought) → IsToNative m x b
    → (H : List Full) → brought j H ≡ Some b → BringsWithin most m (native h) x (take i H)
comes_to_native most i j low few m h x b is H seen =
    let it = seen_at brought_of H j b seen in
    let input = was_given it.q.entry (from_six x) (ap (λ (z : Brought). z.input) it.is ∙ is.input) in
    within_at (BringsToNative m x) most i j low few H it.q it.at
    (record { node = ap (λ (z : Brought). z.node) it.is ∙ is.node; entry = input.entry; did = input.is; packet = input.input_is })

-- it hands x to a client's host, at once or late
pub record IsToClient (m : ℕ) (x : List ℕ) (b : HandedOver) : Type 0 where
  pub node : b.node ≡ Some m
  pub packet : (b.handed ≡ Some x) ⊎ Contains b.late x

pub comes_to_client : (most i j : ℕ) → j < i → i ≤ j + most → (m : ℕ) (c : ClientNode) (x : List ℕ) (b : HandedOver) → IsToClient m x b
    → (H : List Full) → handed_over j H ≡ Some b → BringsWithin most m (client c) x (take i H)
comes_to_client most i j low few m c x b is H seen =
    let it = seen_at handed_of H j b seen in
    within_at (GivesToHost m x) most i j low few H it.q it.at
    (record {
      node = ap (λ (z : HandedOver). z.node) it.is ∙ is.node;
      packet = subst (λ (z : HandedOver). (z.handed ≡ Some x) ⊎ Contains z.late x) (sym it.is) is.packet;
    })

-- WHERE IT DOESN'T

-- no host is handed anything
abbrev pub is_nothing_over : List Full → Bool
is_nothing_over [] = true
is_nothing_over (q ∷ later) = not (is_some q.handed) && (is_none q.late && is_nothing_over later)

-- so no record brings a packet to a client's host
pub not_given : (m : ℕ) (x : List ℕ) (later : List Full) → is_nothing_over later ≡ true → SomeIs (GivesToHost m x) later → ⊥
not_given m x [] none come = come
not_given m x (q ∷ later) none (inl it) = over it.packet where
  parts : (not (is_some q.handed) ≡ true) × ((is_none q.late && is_nothing_over later) ≡ true)
  parts = and_parts (not (is_some q.handed)) _ none

  over : (q.handed ≡ Some x) ⊎ Contains q.late x → ⊥
  over (inl at_once) = false≢true (sym (ap (λ (o : Option (List ℕ)). not (is_some o)) at_once) ∙ parts.0)
  over (inr among) = by q.late refl among (and_parts (is_none q.late) _ parts.1).0 where
    by : (xs : List (List ℕ)) → q.late ≡ xs → Contains xs x → is_none xs ≡ true → ⊥
    by [] is it_is none = omega (arith, it_is.1)
    by (y ∷ ys) is it_is none = false≢true none
not_given m x (q ∷ later) none (inr come) =
    not_given m x later (and_parts (is_none q.late) _ (and_parts (not (is_some q.handed)) _ none).1).1 come
