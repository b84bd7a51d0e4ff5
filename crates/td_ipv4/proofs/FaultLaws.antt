-- The fault that is found is the first.
use Rattle.td_ipv4.proofs.Words.{Err, Gives, HasIp4Head, IfErr, Ip4Fault, IsFirstIp4Fault, IsIp4Long, IsIpv4, IsOfUdp, IsWholeIp4, List, Ok, Result, Udp4Fields, arith, eqb-false, eqb-true, head_len, head_tests, inl, inr, length, ltb-false, ltb-true, not-false, not-true, refl, subst, sym, udp4_at, udp4_fields, udp_fault, udp_place, udp_tests, ℕ, ◌+◌, ◌-◌, ◌>>=◌, ◌≡◌, ◌⊎◌}
use Rattle.td_ipv4.proofs.TestLaws.{FirstTells, none_holds, first_tells, head_told}

bind_err : {A B : Type 0} (r : Result A Ip4Fault) (f : A → Result B Ip4Fault) (e : Ip4Fault) → (r >>= f) ≡ Err e → (r ≡ Err e) ⊎ ((a : A) × (r ≡ Ok a) × (f a ≡ Err e))
bind_err (Ok a) f e h = inr (a, refl, h)
bind_err (Err d) f e h = inl cc

head_fault : (x : List ℕ) (e : Ip4Fault) → FirstTells (head_tests x) e → IsFirstIp4Fault e x
head_fault x e tells =
    let P : Ip4Fault → Type 0 = λ f. IsFirstIp4Fault f x in
    elim tells [
      | inl short ↦ subst P short.1 (refl, ltb-true _ _ short.0)
      | inr a ↦ elim a.1 [
        | inl version ↦ subst P version.1 (ltb-false _ _ a.0, refl, eqb-false _ _ (not-true _ version.0))
        | inr b ↦
            let ipv4 : IsIpv4 x = record { long = ltb-false _ _ a.0; version = eqb-true _ _ (not-false _ b.0) } in
            elim b.1 [
              | inl small ↦ subst P small.1 (ipv4, refl, inl (ltb-true _ _ small.0))
              | inr c ↦ elim c.1 [
                | inl cut ↦ subst P cut.1 (ipv4, refl, inr (ltb-true _ _ cut.0))
                | inr d ↦
                    let head : HasIp4Head x = record { ipv4 = ipv4; least = ltb-false _ _ c.0; there = ltb-false _ _ d.0 } in
                    elim d.1 [
                      | inl other ↦ subst P other.1 (head, refl, refl, eqb-false _ _ (not-true _ other.0))
                      | inr f ↦
                          let long : IsIp4Long x = record { head = head; total = eqb-true _ _ (not-false _ f.0) } in
                          elim f.1 [
                            | inl piece ↦ subst P piece.1 (long, refl, eqb-false _ _ (not-true _ piece.0))
                            | inr g ↦
                                let whole : IsWholeIp4 x = record { long = long; whole = eqb-true _ _ (not-false _ g.0) } in
                                elim g.1 [
                                  | inl protocol ↦ subst P protocol.1 (whole, refl, eqb-false _ _ (not-true _ protocol.0))
                                  | inr none ↦ absurd none.1
                                ]
                          ]
                    ]
              ]
            ]
      ]
    ]

udp_faulty : (x : List ℕ) (e : Ip4Fault) → IsOfUdp x → FirstTells (udp_tests (head_len x) x) e → IsFirstIp4Fault e x
udp_faulty x e is tells =
    let P : Ip4Fault → Type 0 = λ f. IsFirstIp4Fault f x in
    let there : head_len x + (length x - head_len x) ≡ length x = omega (arith, is.whole.long.head.there) in
    elim tells [
      | inl short ↦ subst P short.1 (is, there, ltb-true _ _ short.0)
      | inr a ↦ elim a.1 [
        | inl other ↦ subst P other.1 (is, there, ltb-false _ _ a.0, refl, eqb-false _ _ (not-true _ other.0))
        | inr none ↦ absurd none.1
      ]
    ]

no_err : (v : Udp4Fields) (e : Ip4Fault) → (let r : Result Udp4Fields Ip4Fault = Ok v in r) ≡ Err e → ⊥
no_err v e h = cc

udp4_fault : (x : List ℕ) (e : Ip4Fault) → udp4_at x ≡ Err e → IsFirstIp4Fault e x
unfolding udp_place udp_fault udp4_at
udp4_fault x e h =
    elim (bind_err (udp_place x) (λ place. udp_fault place x >>= λ _. Ok (udp4_fields place x)) e h) [
      | inl first ↦ head_fault x e (first_tells (head_tests x) (head_len x) e first)
      | inr a ↦
          let head = none_holds (head_tests x) (head_len x) a.0 a.1 in
          elim (bind_err (udp_fault a.0 x) (λ _. Ok (udp4_fields a.0 x)) e a.2) [
            | inl second ↦
                let tells : FirstTells (udp_tests (head_len x) x) e = subst (λ (n : ℕ). FirstTells (udp_tests n x) e) (sym head.1) (first_tells (udp_tests a.0 x) tt e second) in
                udp_faulty x e (head_told x head.0) tells
            | inr b ↦ absurd (no_err (udp4_fields a.0 x) e b.2)
          ]
    ]

pub is_fault : {P : Type 0} (view : P → Udp4Fields) (x : List ℕ) (r : Result P Ip4Fault) → Gives view r (udp4_at x) → IfErr r (λ e. IsFirstIp4Fault e x)
is_fault view x (Ok u) given = tt
is_fault view x (Err e) given = udp4_fault x e given
