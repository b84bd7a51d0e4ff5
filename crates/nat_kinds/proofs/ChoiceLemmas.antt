-- The port that a key is given, by what a search over the outward datagrams finds; and that an entry with it may join them.
use Rattle.nat_kinds.proofs.Words.{Agree, Ep, FIRST_PORT, Full, GivesPort, IsLowestFree, List, MAPPINGS_MAX, NatKind, None, Ok, Option, Outward, Some, Sound, ap, arith, find, has_key, inside_if, inside_of, is_used, latest, le-length_from_below, length, live_port, map, ok_or, port_for, port_in, refl, subst, sym, true, ℕ, ◌+◌, ◌-◌, ◌<◌, ◌==◌, ◌∙◌, ◌∷◌, ◌≡◌, ◌≤◌}
use Rattle.nat_kinds.proofs.ListLemmas.{all_found, length-mapped}
use Rattle.nat_kinds.proofs.AnswerLemmas.{port_for-given, port_for-full}
use Rattle.nat_kinds.proofs.PortLemmas.{slot, used_at_slot, find_latest, respects_key, respects_port, agree_again, agree_new, used_latest, count_full, count_free}

-- an entry for this key with this port may be added
abbrev pub Joins : NatKind → Ep → Ep → List Outward → ℕ → Type 0
Joins kind inside dst outs p = (e : Outward) → e.inside ≡ inside → e.dst ≡ dst → e.port ≡ p → Sound kind (e ∷ outs)

pub live_is : (kind : NatKind) (inside dst : Ep) (outs : List Outward) → live_port kind inside dst (latest kind outs) ≡ port_in (find (has_key kind inside dst) outs)
live_is kind inside dst outs = ap port_in (find_latest kind _ outs (respects_key kind inside dst outs))

none_in : (r : Option Outward) → port_in r ≡ None → r ≡ None
none_in None h = refl
none_in (Some e) h = absurd (let g : Some e.port ≡ None = h in cc)

-- THE KEY HAS A LIVE PORT

pub port_for-held : (kind : NatKind) (inside dst : Ep) (outs : List Outward) (p : ℕ) → port_in (find (has_key kind inside dst) outs) ≡ Some p → Ok p ≡ port_for (live_port kind inside dst (latest kind outs)) (latest kind outs)
port_for-held kind inside dst outs p h = sym (ap (λ held. port_for held (latest kind outs)) (live_is kind inside dst outs ∙ h))

pub joins_live : (kind : NatKind) (inside dst : Ep) (outs : List Outward) (p : ℕ) → Sound kind outs → port_in (find (has_key kind inside dst) outs) ≡ Some p → Joins kind inside dst outs p
joins_live kind inside dst outs p s h e i d port = from (find (has_key kind inside dst) outs) refl h
  where
    from : (r : Option Outward) → find (has_key kind inside dst) outs ≡ r → port_in r ≡ Some p → Sound kind (e ∷ outs)
    from None f g = absurd (let k : Some p ≡ None = sym g in cc)
    from (Some x) f g =
        let same : x.port ≡ p = cc in
        let there : find (has_key kind e.inside e.dst) outs ≡ Some x = rw (i, d) f in
        record { agree = (agree_again kind e outs x s.agree there (port ∙ sym same), s.agree); in_range = (subst (λ n. (FIRST_PORT ≤ n) × (n < FIRST_PORT + MAPPINGS_MAX)) (same ∙ sym port) (all_found _ _ outs x s.in_range f), s.in_range) }

-- IT HAS NONE

-- what a search for a free port finds: the lowest one, or none where each is held
abbrev pub FindsFree : List Outward → Option ℕ → Type 0
FindsFree outs None = (q : ℕ) → FIRST_PORT ≤ q → q < FIRST_PORT + MAPPINGS_MAX → is_used outs q ≡ true
FindsFree outs (Some p) = (p < FIRST_PORT + MAPPINGS_MAX) × IsLowestFree outs p

pub joins_free : (kind : NatKind) (inside dst : Ep) (outs : List Outward) (p : ℕ) → Sound kind outs → port_in (find (has_key kind inside dst) outs) ≡ None → FindsFree outs (Some p) → Joins kind inside dst outs p
joins_free kind inside dst outs p s h f e i d port =
    let none : find (has_key kind inside dst) outs ≡ None = none_in _ h in
    let there : find (has_key kind e.inside e.dst) outs ≡ None = rw (i, d) none in
    record { agree = (agree_new kind e outs there (ap (is_used outs) port ∙ f.1.free), s.agree); in_range = ((omega (arith, f.1.from_first), omega (arith, f.0)), s.in_range) }

pub port_for-free : (kind : NatKind) (inside dst : Ep) (outs : List Outward) → Sound kind outs
    → port_in (find (has_key kind inside dst) outs) ≡ None → (r : Option ℕ) → FindsFree outs r
    → ok_or r Full ≡ port_for (live_port kind inside dst (latest kind outs)) (latest kind outs)
port_for-free kind inside dst outs s h None all =
    let many : length (latest kind outs) ≡ MAPPINGS_MAX = count_full kind outs s all in
    sym (ap (λ held. port_for held (latest kind outs)) (live_is kind inside dst outs ∙ h) ∙ port_for-full (latest kind outs) (omega arith))
port_for-free kind inside dst outs s h (Some p) (within, lowest) =
    let live : IsLowestFree (latest kind outs) p = record { from_first = lowest.from_first; free = used_latest kind outs p s.agree ∙ lowest.free; lowest = λ q a b. used_latest kind outs q s.agree ∙ lowest.lowest q a b } in
    sym (ap (λ held. port_for held (latest kind outs)) (live_is kind inside dst outs ∙ h) ∙ port_for-given None (latest kind outs) p (count_free kind outs p s lowest.from_first within lowest.free, live))

-- WHAT IS GIVEN JOINS

-- so many ports lie below it, each held by a mapping
below_last : (live : List Outward) (p : ℕ) → length live < MAPPINGS_MAX → IsLowestFree live p → p < FIRST_PORT + MAPPINGS_MAX
below_last live p few f =
    let many : p - FIRST_PORT ≤ length (map slot live) = le-length_from_below (map slot live) (p - FIRST_PORT) (λ q k. used_at_slot live q (f.lowest (q + FIRST_PORT) (omega arith) (omega arith))) in
    omega (arith, length-mapped slot live, f.from_first)

-- an entry for the key with the port that it is given
pub joins_given : (kind : NatKind) (inside dst : Ep) (outs : List Outward) (p : ℕ) → Sound kind outs → GivesPort (live_port kind inside dst (latest kind outs)) (latest kind outs) p → Joins kind inside dst outs p
joins_given kind inside dst outs p s g = by_held (live_port kind inside dst (latest kind outs)) refl g
  where
    by_held : (held : Option ℕ) → live_port kind inside dst (latest kind outs) ≡ held → GivesPort held (latest kind outs) p → Joins kind inside dst outs p
    by_held (Some port) h g = joins_live kind inside dst outs p s (sym (live_is kind inside dst outs) ∙ h ∙ ap (λ n. Some n) (sym g))
    by_held None h g =
        let lowest : IsLowestFree outs p = record { from_first = g.1.from_first; free = sym (used_latest kind outs p s.agree) ∙ g.1.free; lowest = λ q a b. sym (used_latest kind outs q s.agree) ∙ g.1.lowest q a b } in
        joins_free kind inside dst outs p s (sym (live_is kind inside dst outs) ∙ h) (below_last _ p g.0 g.1, lowest)

-- INWARD

pub inside_is : (kind : NatKind) (outs : List Outward) (src : Ep) (port : ℕ) → Agree kind outs → inside_of kind outs src port ≡ inside_if kind outs src (find (λ e. port == e.port) outs)
inside_is kind outs src port a = ap (inside_if kind outs src) (find_latest kind _ outs (respects_port kind port outs a))
