-- What an answer tells of the tests that it came by.
use Rattle.td_ipv4.proofs.Words.{Bool, Err, HasIp4Head, Ip4Fault, IsIp4Long, IsIpv4, IsOfUdp, IsWholeIp4, List, Ok, Result, UDP_HEAD, [], ap, cond-false, eq-eqb, eqb-true, false, head_tests, inl, inr, le-ltb, length, ltb-false, not, not-false, number_at, refl, true, udp_tests, unless_any, ℕ, ◌+◌, ◌-◌, ◌∙◌, ◌∷◌, ◌≡◌, ◌≤◌, ◌⊎◌}

-- no test holds
abbrev pub NoneHolds : List (Bool × Ip4Fault) → Type 0
NoneHolds [] = Unit {0}
NoneHolds (test ∷ tests) = (test.0 ≡ false) × NoneHolds tests

-- the fault is that of the first test that holds
abbrev pub FirstTells : List (Bool × Ip4Fault) → Ip4Fault → Type 0
FirstTells [] e = ⊥
FirstTells (test ∷ tests) e = ((test.0 ≡ true) × (test.1 ≡ e)) ⊎ ((test.0 ≡ false) × FirstTells tests e)

pub passed : {A : Type 0} (tests : List (Bool × Ip4Fault)) (value : A) → NoneHolds tests → unless_any tests value ≡ Ok value
passed [] value none = refl
passed (test ∷ tests) value none = cond-false test.0 (Err test.1) (unless_any tests value) none.0 ∙ passed tests value none.1

abbrev given : {A : Type 0} → A → Result A Ip4Fault
given x = Ok x

pub given_is : {A : Type 0} (x y : A) → given x ≡ given y → x ≡ y
given_is x y e = cc

by_test : {A : Type 0} (b : Bool) (d : Ip4Fault) (tests : List (Bool × Ip4Fault)) (value y : A) → unless_any ((b, d) ∷ tests) value ≡ Ok y → (b ≡ false) × (unless_any tests value ≡ Ok y)
by_test true d tests value y e = absurd cc
by_test false d tests value y e = (refl, e)

pub none_holds : {A : Type 0} (tests : List (Bool × Ip4Fault)) (value y : A) → unless_any tests value ≡ Ok y → NoneHolds tests × (value ≡ y)
none_holds [] value y e = (tt, given_is value y e)
none_holds (test ∷ tests) value y e =
    let first = by_test test.0 test.1 tests value y e in
    let rest = none_holds tests value y first.1 in
    ((first.0, rest.0), rest.1)

by_fault : {A : Type 0} (b : Bool) (d e : Ip4Fault) (tests : List (Bool × Ip4Fault)) (value : A) → unless_any ((b, d) ∷ tests) value ≡ Err e → ((b ≡ true) × (d ≡ e)) ⊎ ((b ≡ false) × (unless_any tests value ≡ Err e))
by_fault true d e tests value h = inl (refl, cc)
by_fault false d e tests value h = inr (refl, h)

pub first_tells : {A : Type 0} (tests : List (Bool × Ip4Fault)) (value : A) (e : Ip4Fault) → unless_any tests value ≡ Err e → FirstTells tests e
first_tells [] value e h = absurd cc
first_tells (test ∷ tests) value e h =
    elim (by_fault test.0 test.1 e tests value h) [
      | inl first ↦ inl first
      | inr rest ↦ inr (rest.0, first_tells tests value e rest.1)
    ]

-- ---- the two headers

-- UDP's header begins at a place, and tells how many bytes are left
pub record HasUdp (place : ℕ) (x : List ℕ) : Type 0 where
  pub least : UDP_HEAD ≤ length x - place
  pub said : number_at (place + 4) 2 x ≡ length x - place

pub head_told : (x : List ℕ) → NoneHolds (head_tests x) → IsOfUdp x
head_told x none =
    let ipv4 : IsIpv4 x = record { long = ltb-false _ _ none.0; version = eqb-true _ _ (not-false _ none.1.0) } in
    let head : HasIp4Head x = record { ipv4 = ipv4; least = ltb-false _ _ none.1.1.0; there = ltb-false _ _ none.1.1.1.0 } in
    let long : IsIp4Long x = record { head = head; total = eqb-true _ _ (not-false _ none.1.1.1.1.0) } in
    let whole : IsWholeIp4 x = record { long = long; whole = eqb-true _ _ (not-false _ none.1.1.1.1.1.0) } in
    record { whole = whole; udp = eqb-true _ _ (not-false _ none.1.1.1.1.1.1.0) }

pub head_passes : (x : List ℕ) → IsOfUdp x → NoneHolds (head_tests x)
head_passes x is =
    let head = is.whole.long.head in
    (le-ltb _ _ head.ipv4.long, (ap not (eq-eqb _ _ head.ipv4.version), (le-ltb _ _ head.least, (le-ltb _ _ head.there, (ap not (eq-eqb _ _ is.whole.long.total), (ap not (eq-eqb _ _ is.whole.whole), (ap not (eq-eqb _ _ is.udp), tt)))))))

pub udp_told : (place : ℕ) (x : List ℕ) → NoneHolds (udp_tests place x) → HasUdp place x
udp_told place x none = record { least = ltb-false _ _ none.0; said = eqb-true _ _ (not-false _ none.1.0) }

pub udp_passes : (place : ℕ) (x : List ℕ) → HasUdp place x → NoneHolds (udp_tests place x)
udp_passes place x is = (le-ltb _ _ is.least, (ap not (eq-eqb _ _ is.said), tt))
