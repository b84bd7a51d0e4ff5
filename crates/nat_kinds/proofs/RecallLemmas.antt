-- Of whom was asked nothing is kept but the latest moments of the last two idle times.
use Rattle.nat_kinds.proofs.Words.{Bool, Cone, Ep, IsNoted, IsOnce, IsSome, IsSwept, List, Millis, NatKind, NatSettings, None, Option, Outward, Port, Recalls, Restricted, Some, Symmetric, Way, [], ap, arith, asked_at, asked_by, asked_way, cond, false, false≢true, filter, is_recent, is_some-lookup, is_young, keeps_asked, keys_of, length, length-le_from_keys, length-map, list_any, lt-ltb, nat_lt, not, recalled, refl, same_ep, same_way, same_way-true, same_way_equiv, subst, sym, true, unless_in, without, young, ℕ, ◌&&◌, ◌*◌, ◌+◌, ◌-◌, ◌∙◌, ◌∷◌, ◌≡◌, ◌≤◌}
use Rattle.std.specs.Prelude.{is_some}
use Rattle.nat_kinds.proofs.ListLemmas.{filter_swap}
use Rattle.nat_kinds.proofs.OrderLemmas.{young-again}

-- what the new list has, the old one has too
abbrev pub Within : List (Way × Millis) → List (Way × Millis) → Type 0
Within new old = (way : Way) (m : Millis) → asked_at new way ≡ Some m → asked_at old way ≡ Some m

-- none is from more than twice idle before n
abbrev pub Lately : ℕ → ℕ → List (Way × Millis) → Type 0
Lately idle n asked = (way : Way) (m : Millis) → asked_at asked way ≡ Some m → n ≤ m.0 + 2 * idle

-- what was asked long before now may be gone, and nothing else is seen to change
pub record Swept (idle now : ℕ) (old new : List (Way × Millis)) : Type 0 where
  pub recent : (n : ℕ) → now ≤ n → (way : Way) → is_recent idle n (asked_at new way) ≡ is_recent idle n (asked_at old way)
  pub within : Within new old
  pub once : IsOnce old → IsOnce new
  pub lately : Lately idle now new

pub swept_same : (idle now : ℕ) (old mid new : List (Way × Millis)) → Swept idle now old mid → ((way : Way) → asked_at new way ≡ asked_at mid way) → (IsOnce mid → IsOnce new) → Swept idle now old new
swept_same idle now old mid new swept same once = record {
  recent = λ n l way. ap (is_recent idle n) (same way) ∙ swept.recent n l way;
  within = λ way m i. swept.within way m (sym (same way) ∙ i);
  once = λ o. once (swept.once o);
  lately = λ way m i. swept.lately way m (sym (same way) ∙ i);
}

pub swept_lately : (idle n swept : ℕ) (asked new : List (Way × Millis)) → IsSwept idle n swept asked → Within new asked → Lately idle n new
swept_lately idle n swept asked new s within way m is = let k : swept ≤ m.0 + idle = s.kept way m (within way m is) in omega (arith, s.lately, k)

-- it is found where what asked it is left
filter_found : (kind : NatKind) (p : Outward → Bool) (way : Way) (m : Millis) → ((e : Outward) → same_way way (asked_way kind e.inside e.dst) ≡ true → e.moment ≡ m → p e ≡ true)
    → (outs : List Outward) → asked_at (asked_by kind outs) way ≡ Some m → asked_at (asked_by kind (filter p outs)) way ≡ Some m
filter_found kind p way m left [] is = is
filter_found kind p way m left (e ∷ outs) is = by_cases (p e) refl (same_way way (asked_way kind e.inside e.dst)) refl (filter_found kind p way m left outs) is
  where
    by_cases : (b : Bool) → p e ≡ b → (t : Bool) → same_way way (asked_way kind e.inside e.dst) ≡ t
        → (asked_at (asked_by kind outs) way ≡ Some m → asked_at (asked_by kind (filter p outs)) way ≡ Some m)
        → cond t (Some e.moment) (asked_at (asked_by kind outs) way) ≡ Some m → asked_at (asked_by kind (cond b (e ∷ filter p outs) (filter p outs))) way ≡ Some m
    by_cases true h true k rec i = ap (λ t. cond t (Some e.moment) (asked_at (asked_by kind (filter p outs)) way)) k ∙ i
    by_cases true h false k rec i = ap (λ t. cond t (Some e.moment) (asked_at (asked_by kind (filter p outs)) way)) k ∙ rec i
    by_cases false h false k rec i = rec i
    by_cases false h true k rec i = let same : e.moment ≡ m = cc in absurd (false≢true (sym h ∙ left e k same))

-- what stays young
stays_young : (idle n m : ℕ) → n ≤ m + 2 * idle → nat_lt (n - m) (2 * idle + 1) ≡ true
stays_young idle n m l = lt-ltb _ _ (omega (arith, l))

-- time passes
pub recalls_later : (s : NatSettings) (before n : ℕ) (outs : List Outward) (asked : List (Way × Millis)) → before ≤ n
    → Lately s.idle n asked → Recalls s.kind (recalled s.kind s.idle before outs) asked → Recalls s.kind (recalled s.kind s.idle n outs) asked
recalls_later s before n outs asked l late is = record { once = is.once; latest = λ way m i. by_kind way m (late way m i) (keeps_asked s.kind) (is.latest way m i) }
  where
    w : ℕ
    w = 2 * s.idle + 1

    by_kind : (way : Way) (m : Millis) → n ≤ m.0 + 2 * s.idle → (k : Bool) → asked_at (asked_by s.kind (cond k (young w before outs) [])) way ≡ Some m → asked_at (asked_by s.kind (cond k (young w n outs) [])) way ≡ Some m
    by_kind way m k true i =
        sym (ap (λ os. asked_at (asked_by s.kind os) way) (young-again w before n outs l))
        ∙ filter_found s.kind (is_young w n) way m (λ e t same. ap (λ (x : Millis). nat_lt (n - x.0) w) same ∙ stays_young s.idle n m.0 k) (young w before outs) i
    by_kind way m k false i = i

-- nothing was asked
pub recalls_within : (kind : NatKind) (outs : List Outward) (old new : List (Way × Millis)) → Within new old → IsOnce new → Recalls kind outs old → Recalls kind outs new
recalls_within kind outs old new within once is = record { once = once; latest = λ way m i. is.latest way m (within way m i) }

-- a datagram asked
pub recalls_noted : (s : NatSettings) (e : Outward) (outs : List Outward) (old new : List (Way × Millis)) → IsNoted s.kind old new e
    → IsOnce new → Recalls s.kind (recalled s.kind s.idle e.moment.0 outs) old → Recalls s.kind (recalled s.kind s.idle e.moment.0 (e ∷ outs)) new
recalls_noted s e outs old new noted once is = record { once = once; latest = λ way m i. by_kind way m (asked_at old way) (keeps_asked s.kind) (sym (noted way) ∙ i) (is.latest way m) }
  where
    its : Way
    its = asked_way s.kind e.inside e.dst

    before : List Outward
    before = young (2 * s.idle + 1) e.moment.0 outs

    by_way : (way : Way) (m : Millis) (o : Option Millis) (t : Bool) → same_way its way ≡ t → cond t (Some e.moment) o ≡ Some m
        → (o ≡ Some m → asked_at (asked_by s.kind before) way ≡ Some m)
        → cond (same_way way its) (Some e.moment) (asked_at (asked_by s.kind before) way) ≡ Some m
    by_way way m o true k i found = ap (λ t. cond t (Some e.moment) (asked_at (asked_by s.kind before) way)) (same_way_equiv.symm way its ∙ k) ∙ i
    by_way way m o false k i found = ap (λ t. cond t (Some e.moment) (asked_at (asked_by s.kind before) way)) (same_way_equiv.symm way its ∙ k) ∙ found i

    by_kind : (way : Way) (m : Millis) (o : Option Millis) (k : Bool) → cond (k && same_way its way) (Some e.moment) o ≡ Some m
        → (o ≡ Some m → asked_at (asked_by s.kind (cond k before [])) way ≡ Some m)
        → asked_at (asked_by s.kind (cond k (young (2 * s.idle + 1) e.moment.0 (e ∷ outs)) [])) way ≡ Some m
    by_kind way m o true i found =
        ap (λ b. asked_at (asked_by s.kind (cond b (e ∷ before) before)) way) (stays_young s.idle e.moment.0 e.moment.0 (omega arith))
        ∙ by_way way m o (same_way its way) refl i found
    by_kind way m o false i found = found i

-- what a datagram asked is its inside endpoint's
asked_inside : (kind : NatKind) (e : Outward) (way : Way) → same_way way (asked_way kind e.inside e.dst) ≡ true → e.inside ≡ way.inside
asked_inside Cone e way t = ap (λ (w : Way). w.inside) (sym (same_way-true _ _ t))
asked_inside Restricted e way t = ap (λ (w : Way). w.inside) (sym (same_way-true _ _ t))
asked_inside Port e way t = ap (λ (w : Way). w.inside) (sym (same_way-true _ _ t))
asked_inside Symmetric e way t = ap (λ (w : Way). w.inside) (sym (same_way-true _ _ t))

unless_in-there : (who : Ep) (way : Way) (o : Option Millis) (m : Millis) → unless_in who way o ≡ Some m → (same_ep way.inside who ≡ false) × (o ≡ Some m)
unless_in-there who way o m = by_who (same_ep way.inside who) refl
  where
    by_who : (b : Bool) → same_ep way.inside who ≡ b → cond b None o ≡ Some m → (same_ep way.inside who ≡ false) × (o ≡ Some m)
    by_who true h i = absurd (let g : None ≡ Some m = i in cc)
    by_who false h i = (h, i)

-- what this inside endpoint asked is gone
pub record Forgets (who : Ep) (old new : List (Way × Millis)) : Type 0 where
  pub each : (way : Way) → asked_at new way ≡ unless_in who way (asked_at old way)
  pub once : IsOnce new

pub recalls_forgot : (s : NatSettings) (n : ℕ) (who : Ep) (outs : List Outward) (old new : List (Way × Millis)) → Forgets who old new
    → Recalls s.kind (recalled s.kind s.idle n outs) old → Recalls s.kind (recalled s.kind s.idle n (without who outs)) new
recalls_forgot s n who outs old new forgets is = record {
  once = forgets.once;
  latest = λ way m i.
      let was = unless_in-there who way (asked_at old way) m (sym (forgets.each way) ∙ i) in
      by_kind way m was.0 (keeps_asked s.kind) (is.latest way m was.1);
}
  where
    w : ℕ
    w = 2 * s.idle + 1

    by_kind : (way : Way) (m : Millis) → same_ep way.inside who ≡ false → (k : Bool) → asked_at (asked_by s.kind (cond k (young w n outs) [])) way ≡ Some m → asked_at (asked_by s.kind (cond k (young w n (without who outs)) [])) way ≡ Some m
    by_kind way m other true i =
        ap (λ os. asked_at (asked_by s.kind os) way) (sym (filter_swap _ (is_young w n) outs))
        ∙ filter_found s.kind (λ e. not (same_ep e.inside who)) way m (λ e t same. ap (λ x. not (same_ep x who)) (asked_inside s.kind e way t) ∙ ap not other) (young w n outs) i
    by_kind way m other false i = i

-- there are no more of them than such datagrams
pub recalls_few : (kind : NatKind) (outs : List Outward) (asked : List (Way × Millis)) → Recalls kind outs asked → length asked ≤ length outs
recalls_few kind outs asked is =
    let l : length (keys_of asked) ≤ length (asked_by kind outs) = length-le_from_keys same_way_equiv (keys_of asked) (asked_by kind outs) is.once there in
    let to_way : Way × Millis → Way = λ e. e.0 in
    let to_asked : Outward → Way × Millis = λ e. (asked_way kind e.inside e.dst, e.moment) in
    omega (arith, l, length-map asked to_way, length-map outs to_asked)
  where
    found : (way : Way) (o : Option Millis) → asked_at asked way ≡ o → is_some o ≡ true → IsSome (asked_at (asked_by kind outs) way)
    found way None i k = absurd (false≢true k)
    found way (Some m) i k = subst IsSome (sym (is.latest way m i)) refl

    there : (way : Way) → list_any (same_way way) (keys_of asked) ≡ true → IsSome (asked_at (asked_by kind outs) way)
    there way t = found way (asked_at asked way) refl (is_some-lookup (same_way way) asked ∙ t)
