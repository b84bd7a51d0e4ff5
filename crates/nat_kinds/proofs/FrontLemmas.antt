-- The front of a table, over what happens to the table and to the front.
use Rattle.nat_kinds.proofs.Words.{Bool, Departure, FIRST_PORT, Front, HasKeyOnlyAt, HasNoLive, IsFront, IsLiveAt, IsLiveFront, IsPutIn, List, NatKind, NatSettings, None, Option, Outward, Some, ap, arith, cond, drop, eq-eqb, eq-or-lt_of_le, false, false≢true, has_key, if_young, indexed, is_young, length, lt-ltb, ltb-true, nat_lt, place_at, refl, subst, sym, take, take-append-le, take_all, true, unless_key, way_of, ℕ, ⊎_elim, ◌++◌, ◌+◌, ◌-◌, ◌<◌, ◌==◌, ◌∙◌, ◌≡◌, ◌≤◌}
use Rattle.std.specs.Option.{is_some}
use Rattle.nat_kinds.proofs.ShowsLemmas.{young_is}
use Rattle.nat_kinds.proofs.IndexLemmas.{Table, Goes, key_is}

-- while its moment is young, so are its datagrams
pub front_live : (idle now : ℕ) (places : List (Option Outward)) (front : Front) → IsFront places front → nat_lt (now - front.since.0) idle ≡ true → IsLiveFront idle now places front
front_live idle now places front is young i h =
    let e = is i h in
    let soon : now - front.since.0 < idle = ltb-true _ _ young in
    let y : is_young idle now e.0 ≡ true = lt-ltb _ _ (omega (arith, soon, e.2)) in
    ap (λ o. is_some (if_young idle now o)) e.1 ∙ ap is_some (young_is idle now e.0 y)

-- what holds of each place of it holds of each port
pub live_by_port : (idle now : ℕ) (places : List (Option Outward)) (front : Front) → IsLiveFront idle now places front → (q : ℕ) → FIRST_PORT ≤ q → q < FIRST_PORT + front.len → is_some (if_young idle now (place_at places q)) ≡ true
live_by_port idle now places front live q l m =
    let back : FIRST_PORT + (q - FIRST_PORT) ≡ q = omega arith in
    subst (λ (p : ℕ). is_some (if_young idle now (place_at places p)) ≡ true) back (live (q - FIRST_PORT) (omega arith))

-- ONE PLACE MORE

pub record TakesIn (places : List (Option Outward)) (old new : Front) : Type 0 where
  pub sent : Outward
  pub there : place_at places (FIRST_PORT + old.len) ≡ Some sent
  pub len : new.len ≡ old.len + 1
  pub since : new.since.0 ≤ old.since.0
  pub moment : new.since.0 ≤ sent.moment.0

pub front_taken_in : (places : List (Option Outward)) (old new : Front) → TakesIn places old new → IsFront places old → IsFront places new
front_taken_in places old new t is i h = ⊎_elim
    (λ e. (t.sent, ap (λ (k : ℕ). place_at places (FIRST_PORT + k)) e ∙ t.there, t.moment))
    (λ l. let x = is i l in (x.0, x.1, omega (arith, x.2, t.since)))
    (eq-or-lt_of_le {n = i} {m = old.len} (omega (arith, h, t.len)))

pub live_taken_in : (idle now : ℕ) (places : List (Option Outward)) (old new : Front) (t : TakesIn places old new) → is_young idle now t.sent ≡ true → IsLiveFront idle now places old → IsLiveFront idle now places new
live_taken_in idle now places old new t young live i h = ⊎_elim
    (λ e. ap (λ (k : ℕ). is_some (if_young idle now (place_at places (FIRST_PORT + k)))) e ∙ ap (λ o. is_some (if_young idle now o)) t.there ∙ ap is_some (young_is idle now t.sent young))
    (λ l. live i l)
    (eq-or-lt_of_le {n = i} {m = old.len} (omega (arith, h, t.len)))

-- A KEY HAS ONE PLACE IN IT AT MOST

-- since the index has the key once
pub held_key : (s : NatSettings) (t : Table) (front : Front) (d : Departure) (port : ℕ) → Goes s.kind t → IsLiveAt s.kind s.idle d.moment.0 t.places d.inside d.dst port → HasKeyOnlyAt s.kind d.inside d.dst t.places front port
held_key s t front d port goes live i e h at has =
    let same : way_of s.kind e ≡ way_of s.kind live.0 = sym (key_is s.kind d.inside d.dst e has) ∙ key_is s.kind d.inside d.dst live.0 live.2 in
    let both : Some (FIRST_PORT + i) ≡ Some port = sym (goes.there (FIRST_PORT + i) e at) ∙ ap (indexed t.index) same ∙ goes.there port live.0 live.1 in
    cc

-- or none, where each place is live and the key isn't
pub no_key : (s : NatSettings) (places : List (Option Outward)) (front : Front) (d : Departure) (port : ℕ)
    → IsLiveFront s.idle d.moment.0 places front → HasNoLive s.kind s.idle d.moment.0 places d.inside d.dst
    → HasKeyOnlyAt s.kind d.inside d.dst places front port
no_key s places front d port live none i e h at has = absurd (by_young (is_young s.idle d.moment.0 e) refl)
  where
    by_young : (b : Bool) → is_young s.idle d.moment.0 e ≡ b → ⊥
    by_young true y = false≢true (sym (none (FIRST_PORT + i) e at has) ∙ y)
    by_young false y = false≢true (sym (ap (λ b. is_some (cond b (Some e) None)) y) ∙ sym (ap (λ o. is_some (if_young s.idle d.moment.0 o)) at) ∙ live i h)

-- PUTTING

-- the same places have the same front
pub front_same : (old new : List (Option Outward)) (front : Front) → ((p : ℕ) → place_at new p ≡ place_at old p) → IsFront old front → IsFront new front
front_same old new front same is i h = let x = is i h in (x.0, same (FIRST_PORT + i) ∙ x.1, x.2)

-- new is old with a datagram at a port that a search gave, over places that are the same
pub record PutsGiven (kind : NatKind) (e : Outward) (front : Front) (old new : List (Option Outward)) : Type 0 where
  pub searched : List (Option Outward)
  pub same : (p : ℕ) → place_at old p ≡ place_at searched p
  pub key : HasKeyOnlyAt kind e.inside e.dst searched front e.port
  pub past : front.since.0 ≤ e.moment.0
  pub put : IsPutIn kind old new e

pub front_put : (kind : NatKind) (e : Outward) (front : Front) (old new : List (Option Outward)) (puts : PutsGiven kind e front old new) → IsFront puts.searched front → IsFront new front
front_put kind e front old new puts is i h = by_port (e.port == FIRST_PORT + i) refl
  where
    x : Outward
    x = (is i h).0

    by_key : (e.port == FIRST_PORT + i) ≡ false → (b : Bool) → has_key kind e.inside e.dst x ≡ b → cond b None (Some x) ≡ Some x
    by_key n false k = refl
    by_key n true k = absurd (false≢true (sym n ∙ eq-eqb e.port (FIRST_PORT + i) (sym (puts.key i x h (is i h).1 k))))

    there : (b : Bool) → (e.port == FIRST_PORT + i) ≡ b → place_at new (FIRST_PORT + i) ≡ cond b (Some e) (unless_key kind e (Some x))
    there b n = puts.put (FIRST_PORT + i) ∙ ap (λ b. cond b (Some e) (unless_key kind e (place_at old (FIRST_PORT + i)))) n ∙ ap (λ o. cond b (Some e) (unless_key kind e o)) (puts.same (FIRST_PORT + i) ∙ (is i h).1)

    by_port : (b : Bool) → (e.port == FIRST_PORT + i) ≡ b → (y : Outward) × (place_at new (FIRST_PORT + i) ≡ Some y) × (front.since.0 ≤ y.moment.0)
    by_port true n = (e, there true n, puts.past)
    by_port false n = (x, there false n ∙ by_key n (has_key kind e.inside e.dst x) refl, (is i h).2)

-- as many places in place of those of a table
pub written_back : (old new : List (Option Outward)) (len : ℕ) → len ≡ length old → length new ≡ length old → take len (new ++ drop (length new) old) ≡ new
written_back old new len size same = ap (λ (k : ℕ). take k (new ++ drop (length new) old)) (size ∙ sym same) ∙ take-append-le (length new) new (drop (length new) old) (omega arith) ∙ take_all (length new) new (omega arith)
