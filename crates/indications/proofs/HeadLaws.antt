-- What each answer about a place tells, and from what it follows.
use Rattle.indications.proofs.Words.{Cut, Err, Head, IsHeadCut, IsNoKind, Kind, LeadFault, List, Ok, Order, Result, ap, arith, chosen, cond, cond-false, cond-true, drop, eq-eqb, eqb, eqb-false, eqb-true, false, get_or-drop, guard_err, guard_ok, head_at, inl, inr, leb, leb-false, leb-true, length, length-drop, lt-leb, not, not-false, not-true, refl, slice_index, subst, sym, ℕ, ◌+◌, ◌-◌, ◌/◌, ◌<◌, ◌>>=◌, ◌∙◌, ◌≡◌, ◌≢◌, ◌≤◌, ◌⊎◌}
use Rattle.indications.specs.declared.head.Head.TheVariants as heads

err_is : {B : Type 0} (x y : Result B LeadFault) (d e : LeadFault) → x ≡ Err d → y ≡ Err e → x ≡ y → d ≡ e
err_is x y d e p q h = cc

pub bind_err : {A B : Type 0} (r : Result A LeadFault) (f : A → Result B LeadFault) (e : LeadFault) → (r >>= f) ≡ Err e → (r ≡ Err e) ⊎ ((x : A) × (r ≡ Ok x) × (f x ≡ Err e))
bind_err (Ok x) f e h = inr (x, refl, h)
bind_err {B} (Err d) f e h =
    let failed : LeadFault → Result B LeadFault = λ c. Err c in
    let is : d ≡ e = err_is (failed d) (failed e) d e refl refl h in
    inl (ap (λ c. Err c) is)

abbrev headed : Head → Result Head LeadFault
headed h = Ok h

-- what a head says of the bytes
abbrev pub HeadIs : Head → ℕ → List ℕ → Type 0
HeadIs heads.Packet place x = (place < length x) × (slice_index x place / 16 ≡ 6)
HeadIs heads.Auth place x = (place + 1 < length x) × (slice_index x place ≡ 0) × (slice_index x (place + 1) ≡ 1)
HeadIs heads.Origin place x = (place + 1 < length x) × (slice_index x place ≡ 0) × (slice_index x (place + 1) ≡ 0)

pub head_tells : (place : ℕ) (x : List ℕ) (h : Head) → head_at place x ≡ Ok h → HeadIs h place x
unfolding head_at
head_tells place x h e =
    let byte = slice_index x place in
    let second = slice_index x (place + 1) in
    let r6 : Result Head LeadFault = cond (eqb second 1) (Ok heads.Auth) (Err (Kind (place + 1) second)) in
    let r5 : Result Head LeadFault = cond (eqb second 0) (Ok heads.Origin) r6 in
    let r4 : Result Head LeadFault = cond (leb (length x) (place + 1)) (Err (Cut place)) r5 in
    let r3 : Result Head LeadFault = cond (not (eqb byte 0)) (Err (Kind place byte)) r4 in
    let r2 : Result Head LeadFault = cond (eqb (byte / 16) 6) (Ok heads.Packet) r3 in
    let a = guard_ok (leb (length x) place) (Cut place) r2 h e in
    elim (chosen (eqb (byte / 16) 6) (headed heads.Packet) r3 (Ok h) a.1) [
      | inl six ↦
          let is : heads.Packet ≡ h = cc in
          subst (λ (k : Head). HeadIs k place x) is (leb-false _ _ a.0, eqb-true _ _ six.0)
      | inr b ↦
          let c = guard_ok (not (eqb byte 0)) (Kind place byte) r4 h b.1 in
          let zero : byte ≡ 0 = eqb-true _ _ (not-false _ c.0) in
          let d = guard_ok (leb (length x) (place + 1)) (Cut place) r5 h c.1 in
          let long : place + 1 < length x = leb-false _ _ d.0 in
          elim (chosen (eqb second 0) (headed heads.Origin) r6 (Ok h) d.1) [
            | inl none ↦
                let is : heads.Origin ≡ h = cc in
                subst (λ (k : Head). HeadIs k place x) is (long, zero, eqb-true _ _ none.0)
            | inr f ↦
                elim (chosen (eqb second 1) (headed heads.Auth) (Err (Kind (place + 1) second)) (Ok h) f.1) [
                  | inl one ↦
                      let is : heads.Auth ≡ h = cc in
                      subst (λ (k : Head). HeadIs k place x) is (long, zero, eqb-true _ _ one.0)
                  | inr g ↦ absurd cc
                ]
          ]
    ]

pub packet_head : (place : ℕ) (x : List ℕ) → place < length x → slice_index x place / 16 ≡ 6 → head_at place x ≡ Ok heads.Packet
unfolding head_at
packet_head place x long six = cond-false _ _ _ (lt-leb _ _ long) ∙ cond-true _ _ _ (eq-eqb _ _ six)

-- a block begins with a 0 and its kind
block_head : (place kind : ℕ) (x : List ℕ) → place + 1 < length x → slice_index x place ≡ 0 → slice_index x (place + 1) ≡ kind
    → head_at place x ≡ cond (eqb kind 0) (Ok heads.Origin) (cond (eqb kind 1) (Ok heads.Auth) (Err (Kind (place + 1) kind)))
unfolding head_at
block_head place kind x long zero is =
    let not_six : eqb (slice_index x place / 16) 6 ≡ false = ap (λ (b : ℕ). eqb (b / 16) 6) zero in
    let is_zero : not (eqb (slice_index x place) 0) ≡ false = ap (λ (b : ℕ). not (eqb b 0)) zero in
    cond-false _ _ _ (lt-leb (length x) place (omega arith)) ∙ cond-false _ _ _ not_six ∙ cond-false _ _ _ is_zero ∙ cond-false _ _ _ (lt-leb _ _ long)
    ∙ ap (λ (k : ℕ). cond (eqb k 0) (headed heads.Origin) (cond (eqb k 1) (Ok heads.Auth) (Err (Kind (place + 1) k)))) is

pub origin_head : (place : ℕ) (x : List ℕ) → place + 1 < length x → slice_index x place ≡ 0 → slice_index x (place + 1) ≡ 0 → head_at place x ≡ Ok heads.Origin
origin_head place x long zero is = block_head place 0 x long zero is

pub auth_head : (place : ℕ) (x : List ℕ) → place + 1 < length x → slice_index x place ≡ 0 → slice_index x (place + 1) ≡ 1 → head_at place x ≡ Ok heads.Auth
auth_head place x long zero is = block_head place 1 x long zero is

-- what begins at a place, as seen from there
pub at_first : (place : ℕ) (x : List ℕ) → slice_index (drop place x) 0 ≡ slice_index x place
at_first place x = rw get_or-drop (ap (λ (k : ℕ). slice_index x k) (omega arith))

pub at_second : (place : ℕ) (x : List ℕ) → slice_index (drop place x) 1 ≡ slice_index x (place + 1)
at_second place x = rw get_or-drop refl

-- what a fault of a head says of the bytes from there on
abbrev pub HeadFails : ℕ → List ℕ → LeadFault → Type 0
HeadFails place rest (Cut at) = (at ≡ place) × IsHeadCut rest
HeadFails place rest (Order at) = ⊥
HeadFails place rest (Kind at byte) = IsNoKind place rest at byte

pub head_fails : (place : ℕ) (x : List ℕ) (e : LeadFault) → place ≤ length x → head_at place x ≡ Err e → HeadFails place (drop place x) e
unfolding head_at
head_fails place x e inside h =
    let rest = drop place x in
    let byte = slice_index x place in
    let second = slice_index x (place + 1) in
    let len : length rest ≡ length x - place = length-drop place x in
    let r6 : Result Head LeadFault = cond (eqb second 1) (Ok heads.Auth) (Err (Kind (place + 1) second)) in
    let r5 : Result Head LeadFault = cond (eqb second 0) (Ok heads.Origin) r6 in
    let r4 : Result Head LeadFault = cond (leb (length x) (place + 1)) (Err (Cut place)) r5 in
    let r3 : Result Head LeadFault = cond (not (eqb byte 0)) (Err (Kind place byte)) r4 in
    let r2 : Result Head LeadFault = cond (eqb (byte / 16) 6) (Ok heads.Packet) r3 in
    elim (guard_err (leb (length x) place) (Cut place) r2 e h) [
      | inl cut ↦
          let none : length x ≤ place = leb-true _ _ cut.0 in
          subst (HeadFails place rest) cut.1 (refl, inl (omega (arith, len, none)))
      | inr a ↦
          let some : place < length x = leb-false _ _ a.0 in
          elim (chosen (eqb (byte / 16) 6) (headed heads.Packet) r3 (Err e) a.1) [
            | inl six ↦ absurd cc
            | inr b ↦
                elim (guard_err (not (eqb byte 0)) (Kind place byte) r4 e b.1) [
                  | inl kind ↦ subst (HeadFails place rest) kind.1 (inl (refl, omega (arith, len, some), sym (at_first place x), eqb-false _ _ (not-true _ kind.0), eqb-false _ _ b.0))
                  | inr c ↦
                      let zero : slice_index rest 0 ≡ 0 = at_first place x ∙ eqb-true _ _ (not-false _ c.0) in
                      elim (guard_err (leb (length x) (place + 1)) (Cut place) r5 e c.1) [
                        | inl cut ↦
                            let one : length x ≤ place + 1 = leb-true _ _ cut.0 in
                            subst (HeadFails place rest) cut.1 (refl, inr (omega (arith, len, some, one), zero))
                        | inr d ↦
                            let two : place + 1 < length x = leb-false _ _ d.0 in
                            elim (chosen (eqb second 0) (headed heads.Origin) r6 (Err e) d.1) [
                              | inl none ↦ absurd cc
                              | inr f ↦
                                  elim (chosen (eqb second 1) (headed heads.Auth) (Err (Kind (place + 1) second)) (Err e) f.1) [
                                    | inl one ↦ absurd cc
                                    | inr g ↦
                                        let is : Kind (place + 1) second ≡ e = cc in
                                        let not_zero : second ≢ 0 = eqb-false _ _ f.0 in
                                        let not_one : second ≢ 1 = eqb-false _ _ g.0 in
                                        subst (HeadFails place rest) is (inr (refl, omega (arith, len, two), zero, sym (at_second place x), omega (arith, not_zero, not_one)))
                                  ]
                            ]
                      ]
                ]
          ]
    ]
