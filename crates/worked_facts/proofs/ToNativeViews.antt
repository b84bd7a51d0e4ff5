-- What a record brings to which node. One brings a packet to a native host, or hands its answer over; and how a schedule breaks the
-- conclusion of the theorem on first packets to native hosts.
use Rattle.worked_facts.proofs.Words.{Bool, Entry, Fate, Full, GetsToNative, HasAnswered, HasComeToNative, Input, Lab, List, Option, ReachesNative, Some, [], ap, arith, cond, drop, false, false≢true, from_six, inl, inr, is_kept, is_some, length, map, most_to_native, native_in, option_map, slice_get, subst, suc, sym, take, true, unwrap_or, wire, zero, ℕ, ◌++◌, ◌-◌, ◌<◌, ◌∙◌, ◌∷◌, ◌≡◌}
use Rattle.teredo_node.specs.declared.fate.Fate.TheVariants as fate
use Rattle.worked_facts.proofs.FirstPacketViews.{left_from, complete_if}
use Rattle.worked_facts.proofs.NativeViews.{Three, NativePacket, native_packet, was_given, seen_of}

-- at which node, what this was given, what became of it, and what its host was handed
pub record Arrival : Type 0 where
  pub node : Option ℕ
  pub input : Option Input
  pub fate : Fate
  pub handed : Option (List ℕ)

abbrev pub arrival_of : Full → Arrival
arrival_of q = record { node = q.node; input = option_map (λ (e : Entry). e.input) q.entry; fate = q.fate; handed = q.handed }

-- of the record behind the latest ones, so many
abbrev pub arrival : ℕ → List Full → Option Arrival
arrival j H = option_map arrival_of (slice_get H j)

-- WHERE THE PACKET COMES

-- it is that of x at native m
pub record IsBrought (m : ℕ) (x : List ℕ) (a : Arrival) : Type 0 where
  pub node : a.node ≡ Some m
  pub input : a.input ≡ Some (from_six x)
  pub fate : a.fate ≡ (native_in x).fate

comes : (m : ℕ) (x : List ℕ) (a : Arrival) → IsBrought m x a → (q : Full) → arrival_of q ≡ a → ReachesNative m x q
comes m x a brought q is = (
    let given = was_given q.entry (from_six x) (ap (λ (b : Arrival). b.input) is ∙ brought.input) in
    record {
      brings = record { node = ap (λ (b : Arrival). b.node) is ∙ brought.node; entry = given.entry; did = given.is; packet = given.input_is };
      fate = ap (λ (b : Arrival). b.fate) is ∙ brought.fate;
    })

-- then one of the latest records brings it
pub has_come : (m : ℕ) (x : List ℕ) (a : Arrival) → IsBrought m x a → (i j : ℕ) → j < i → (H : List Full) → arrival j H ≡ Some a
    → HasComeToNative m x (take i H)
has_come m x a brought zero j low H seen = absurd (omega (arith, low))
has_come m x a brought (suc i) j low [] seen = absurd (false≢true (ap (λ (o : Option Arrival). is_some o) seen))
has_come m x a brought (suc i) zero low (q ∷ H) seen = inl (comes m x a brought q (ap (λ (o : Option Arrival). unwrap_or o a) seen))
has_come m x a brought (suc i) (suc j) low (q ∷ H) seen = inr (has_come m x a brought i j (omega (arith, low)) H seen)

-- it hands the answer y to the host of client n
pub record IsAnswer (n : ℕ) (y : List ℕ) (a : Arrival) : Type 0 where
  pub node : a.node ≡ Some n
  pub handed : a.handed ≡ Some y
  pub rule : a.fate ≡ fate.Rule1

-- then the latest record does
pub has_answered : (n : ℕ) (y : List ℕ) (a : Arrival) → IsAnswer n y a → (i : ℕ) (H : List Full) → arrival 0 H ≡ Some a
    → HasAnswered n y (take (suc i) H)
has_answered n y a answer i [] seen = absurd (false≢true (ap (λ (o : Option Arrival). is_some o) seen))
has_answered n y a answer i (q ∷ H) seen =
    let is : arrival_of q ≡ a = ap (λ (o : Option Arrival). unwrap_or o a) seen in
    inl (record {
      node = ap (λ (b : Arrival). b.node) is ∙ answer.node;
      packet = ap (λ (b : Arrival). b.handed) is ∙ answer.handed;
      rule = ap (λ (b : Arrival). b.fate) is ∙ answer.rule;
    })

-- WHERE IT DOESN'T

-- no native host kept anything
abbrev pub is_none_kept : List Fate → Bool
is_none_kept [] = true
is_none_kept (f ∷ fates) = cond (is_kept f) false (is_none_kept fates)

abbrev pub fates_of : List Full → List Fate
fates_of later = map (λ (q : Full). q.fate) later

-- so a packet that it would keep came to none
not_come : (m : ℕ) (x : List ℕ) → (native_in x).fate ≡ fate.Kept → (later : List Full) → is_none_kept (fates_of later) ≡ true → HasComeToNative m x later → ⊥
not_come m x kept [] none come = come
not_come m x kept (q ∷ later) none (inl c) =
    false≢true (ap (λ (f : Fate). cond (is_kept f) false (is_none_kept (fates_of later))) (sym (c.fate ∙ kept)) ∙ none)
not_come m x kept (q ∷ later) none (inr come) = by (is_kept q.fate) none (λ e. not_come m x kept later e come) where
  by : (b : Bool) → cond b false (is_none_kept (fates_of later)) ≡ true → (is_none_kept (fates_of later) ≡ true → ⊥) → ⊥
  by true e ih = false≢true e
  by false e ih = ih e

among_more : (m : ℕ) (x : List ℕ) (rest first : List Full) → HasComeToNative m x first → HasComeToNative m x (rest ++ first)
among_more m x [] first come = come
among_more m x (q ∷ rest) first come = inr (among_more m x rest first come)

-- a schedule in which no native host keeps anything doesn't bring such a packet
pub not_there : (lab : Lab) (t : Three) (i : ℕ) (H : List Full) (p : NativePacket) → native_packet lab t i H ≡ Some p → is_none_kept p.fates ≡ true
    → (x : List ℕ) → (native_in x).fate ≡ fate.Kept → (q : Full) → slice_get H i ≡ Some q → HasComeToNative t.m x (take i H) → ⊥
not_there lab t i H p seen none x kept q at =
    not_come t.m x kept (take i H) (ap (λ (z : NativePacket). is_none_kept z.fates) (seen_of lab t i H p seen q at) ∙ none)

-- so a complete one breaks the conclusion
pub not_brought : (lab : Lab) (t : Three) (i : ℕ) (H : List Full) (p : NativePacket) → native_packet lab t i H ≡ Some p → p.left ≡ []
    → is_none_kept p.fates ≡ true → (x : List ℕ) → (native_in x).fate ≡ fate.Kept
    → (q : Full) → slice_get H i ≡ Some q → GetsToNative (drop (suc i) H) q t.n t.m x (take i H) (most_to_native t.own) → ⊥
not_brought lab t i H p seen left none x kept q at gets =
    let nothing : left_from (take i H) q.first (length (wire H) - q.first) ≡ [] = ap (λ (z : NativePacket). z.left) (seen_of lab t i H p seen q at) ∙ left in
    let within = gets.arrives (complete_if i H q at nothing) in
    not_there lab t i H p seen none x kept q at
    (subst (λ (l : List Full). HasComeToNative t.m x l) (sym within.split) (among_more t.m x within.rest within.first within.comes))
