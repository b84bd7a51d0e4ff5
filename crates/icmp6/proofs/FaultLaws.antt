-- The fault that is found is the first.
use Rattle.icmp6.proofs.Words.{AreWholeUpTo, Bool, Code, Err, Gives, HasFields, HasOptionsAt, HopLimit, IcmpFault, IfErr, Ip6, IsFirstMessageFault, IsNear, IsOptionFault, IsSummed, IsTrue, List, Message, Ok, OptionCut, OptionZero, Result, Short, Source, Sum, advert_at, ap, arith, checksum_of, chosen, cond, drop, echo_reply, echo_reply_at, echo_request, echo_request_at, eqb, eqb-false, eqb-true, false, get_or-take, guard_err, has_code, has_hop, has_len, has_source, inl, inr, is_known, is_link_local, is_router, least_len, leb, leb-false, length, length-take, ltb, ltb-false, ltb-true, message_at, not, not-false, not-true, number_at, option_len, other, refl, router_advert, router_solicit, slice_index, solicit_at, subst, suc, take, true, whole_options, zero, ℕ, ◌*◌, ◌+◌, ◌<◌, ◌>>=◌, ◌≡◌, ◌≢◌, ◌⊎◌}
use Rattle.icmp6.proofs.Steps.{ok_len, ok_hop, ok_code, ok_source}
use Rattle.icmp6.proofs.OptionLaws.{IsWholeAt, none_left, one_more, option_found}
use Rattle.icmp6.proofs.AgainLaws.{typed}

-- ---- steps that failed

bind_err : {A B : Type 0} (r : Result A IcmpFault) (f : A → Result B IcmpFault) (e : IcmpFault) → (r >>= f) ≡ Err e → (r ≡ Err e) ⊎ ((a : A) × (r ≡ Ok a) × (f a ≡ Err e))
bind_err (Ok a) f e h = inr (a, refl, h)
bind_err (Err d) f e h = inl cc

-- a fault where a test doesn't hold
unless_err : (b : Bool) (d e : IcmpFault) (r : Result (Unit {0}) IcmpFault) → r ≡ Ok tt → cond b r (Err d) ≡ Err e → (b ≡ false) × (d ≡ e)
unless_err true d e r fine h = absurd cc
unless_err false d e r fine h = (refl, cc)

abbrev fine : Result (Unit {0}) IcmpFault
fine = Ok tt

no_err : {A : Type 0} (a : A) (e : IcmpFault) → (let r : Result A IcmpFault = Ok a in r) ≡ Err e → ⊥
no_err a e h = cc

len_err : (least : ℕ) (x : List ℕ) (e : IcmpFault) → has_len least x ≡ Err e → (length x < least) × (Short (length x) ≡ e)
len_err least x e h =
    elim (guard_err (ltb (length x) least) (Short (length x)) fine e h) [
      | inl short ↦ (ltb-true _ _ short.0, short.1)
      | inr none ↦ absurd (no_err tt e none.1)
    ]

hop_err : (hop : ℕ) (e : IcmpFault) → has_hop hop ≡ Err e → (hop ≢ 255) × (HopLimit hop ≡ e)
hop_err hop e h = let a = unless_err (eqb hop 255) (HopLimit hop) e fine refl h in (eqb-false _ _ a.0, a.1)

code_err : (x : List ℕ) (e : IcmpFault) → has_code x ≡ Err e → (slice_index x 1 ≢ 0) × (Code (slice_index x 1) ≡ e)
code_err x e h = let a = unless_err (eqb (slice_index x 1) 0) (Code (slice_index x 1)) e fine refl h in (eqb-false _ _ a.0, a.1)

source_err : (src : Ip6) (e : IcmpFault) → has_source src ≡ Err e → (is_link_local src ≡ false) × (Source ≡ e)
source_err src e h = unless_err (is_link_local src) Source e fine refl h

-- ---- options

at_once : (place : ℕ) (x : List ℕ) → place < length x → AreWholeUpTo place place x
at_once place x more = record { begins = omega arith; more = more; whole = none_left place (take place x) (omega (arith, length-take place x)) }

further : (start len place : ℕ) (x : List ℕ) → IsWholeAt start len x → AreWholeUpTo (start + len) place x → AreWholeUpTo start place x
further start len place x first rest =
    let y : List ℕ = take place x in
    let byte : slice_index y (start + 1) ≡ slice_index x (start + 1) = get_or-take place x (start + 1) 0 (omega (arith, rest.begins, first.len_is, first.some)) in
    let whole : IsWholeAt start len y = record { len_is = omega (arith, byte, first.len_is); some = first.some; fits = omega (arith, rest.begins, rest.more, length-take place x) } in
    record { begins = omega (arith, rest.begins); more = rest.more; whole = one_more start len y whole rest.whole }

first_option : (place : ℕ) (x : List ℕ) (e : IcmpFault) → place < length x → option_len place x ≡ Err e → IsOptionFault place x e
unfolding option_len
first_option place x e more h =
    let n : ℕ = 8 * slice_index x (place + 1) in
    let last : Result ℕ IcmpFault = cond (ltb (length x) (place + n)) (Err (OptionCut place)) (Ok n) in
    elim (guard_err (ltb (length x) (place + 2)) (OptionCut place) (cond (eqb n 0) (Err (OptionZero place)) last) e h) [
      | inl cut ↦ subst (IsOptionFault place x) cut.1 (at_once place x more, inl (ltb-true _ _ cut.0))
      | inr a ↦ elim (guard_err (eqb n 0) (OptionZero place) last e a.1) [
        | inl none ↦
            let is : n ≡ 0 = eqb-true _ _ none.0 in
            subst (IsOptionFault place x) none.1 (at_once place x more, ltb-false _ _ a.0, omega (arith, is))
        | inr b ↦ elim (guard_err (ltb (length x) (place + n)) (OptionCut place) (Ok n) e b.1) [
          | inl cut ↦
              let some : n ≢ 0 = eqb-false _ _ b.0 in
              subst (IsOptionFault place x) cut.1 (at_once place x more, inr (omega (arith, some), ltb-true _ _ cut.0))
          | inr none ↦ absurd (no_err n e none.1)
        ]
      ]
    ]

later_option : (start len : ℕ) (x : List ℕ) (e : IcmpFault) → IsWholeAt start len x → IsOptionFault (start + len) x e → IsOptionFault start x e
later_option start len x (OptionCut place) first is = (further start len place x first is.0, is.1)
later_option start len x (OptionZero place) first is = (further start len place x first is.0, is.1, is.2)
later_option start len x (Short n) first is = is
later_option start len x (Sum said found) first is = is
later_option start len x (HopLimit hop) first is = is
later_option start len x (Code code) first is = is
later_option start len x Source first is = is

options_err : (n start : ℕ) (x : List ℕ) (e : IcmpFault) → whole_options n start x ≡ Err e → IsOptionFault start x e
unfolding whole_options
options_err zero start x e h = absurd (no_err tt e h)
options_err (suc n) start x e h =
    elim (chosen (leb (length x) start) fine (option_len start x >>= λ len. whole_options n (start + len) x) (Err e) h) [
      | inl past ↦ absurd (no_err tt e past.1)
      | inr more ↦ elim (bind_err (option_len start x) (λ len. whole_options n (start + len) x) e more.1) [
        | inl cut ↦ first_option start x e (leb-false _ _ more.0) cut
        | inr rest ↦ later_option start rest.0 x e (option_found start rest.0 x rest.1) (options_err n (start + rest.0) x e rest.2)
      ]
    ]

-- ---- each type

abbrev given : Message → Result Message IcmpFault
given m = Ok m

-- the checksum is right, and the type is known: a router's or not, and of so many bytes at least
record IsOfType (src dst : Ip6) (router : Bool) (x : List ℕ) : Type 0 where
  pub summed : IsSummed src dst x
  pub least : ℕ
  pub least_is : least_len (slice_index x 0) ≡ least
  pub router_is : is_router (slice_index x 0) ≡ router
  pub known : is_known (slice_index x 0) ≡ true

short_fault : (src dst : Ip6) (hop : ℕ) (router : Bool) (x : List ℕ) (e : IcmpFault) (t : IsOfType src dst router x) → has_len t.least x ≡ Err e → IsFirstMessageFault src dst hop x e
short_fault src dst hop router x e t h =
    let a = len_err t.least x e h in
    let short : length x < least_len (slice_index x 0) = omega (arith, a.0, t.least_is) in
    subst (IsFirstMessageFault src dst hop x) a.1 (refl, inr (t.summed, short))

has_fields : (src dst : Ip6) (router : Bool) (x : List ℕ) (u : Unit {0}) (t : IsOfType src dst router x) → has_len t.least x ≡ Ok u → HasFields src dst x
has_fields src dst router x u t h = record { summed = t.summed; long = omega (arith, ok_len t.least x u h, t.least_is) }

code_fault : (src dst : Ip6) (hop : ℕ) (x : List ℕ) (e : IcmpFault) → IsNear src dst hop x → is_known (slice_index x 0) ≡ true → has_code x ≡ Err e → IsFirstMessageFault src dst hop x e
code_fault src dst hop x e near known h =
    let a = code_err x e h in
    subst (IsFirstMessageFault src dst hop x) a.1 (near, known, refl, a.0)

echo_fault : (src dst : Ip6) (hop : ℕ) (m : Message) (x : List ℕ) (e : IcmpFault) (t : IsOfType src dst false x) → (has_len t.least x >>= λ _. has_code x >>= λ _. given m) ≡ Err e → IsFirstMessageFault src dst hop x e
echo_fault src dst hop m x e t h =
    elim (bind_err (has_len t.least x) (λ _. has_code x >>= λ _. given m) e h) [
      | inl short ↦ short_fault src dst hop false x e t short
      | inr a ↦
          let near : IsNear src dst hop x = record { fields = has_fields src dst false x a.0 t a.1; near = λ router. absurd (not_both _ t.router_is router) } in
          elim (bind_err (has_code x) (λ _. given m) e a.2) [
            | inl code ↦ code_fault src dst hop x e near t.known code
            | inr b ↦ absurd (no_err m e b.2)
          ]
    ]
  where
    not_both : (b : Bool) → b ≡ false → IsTrue b → ⊥
    not_both true e h = absurd cc
    not_both false e h = absurd cc

-- a router's message up to its code
router_fault : (src dst : Ip6) (hop : ℕ) (rest : Result Message IcmpFault) (x : List ℕ) (e : IcmpFault) (t : IsOfType src dst true x)
    → (has_len t.least x >>= λ _. has_hop hop >>= λ _. has_code x >>= λ _. rest) ≡ Err e → IsFirstMessageFault src dst hop x e ⊎ (IsNear src dst hop x × (slice_index x 1 ≡ 0) × (rest ≡ Err e))
router_fault src dst hop rest x e t h =
    elim (bind_err (has_len t.least x) (λ _. has_hop hop >>= λ _. has_code x >>= λ _. rest) e h) [
      | inl short ↦ inl (short_fault src dst hop true x e t short)
      | inr a ↦
          let fields = has_fields src dst true x a.0 t a.1 in
          elim (bind_err (has_hop hop) (λ _. has_code x >>= λ _. rest) e a.2) [
            | inl far ↦
                let b = hop_err hop e far in
                inl (subst (IsFirstMessageFault src dst hop x) b.1 (fields, t.router_is, refl, b.0))
            | inr b ↦
                let near : IsNear src dst hop x = record { fields = fields; near = λ _. ok_hop hop b.0 b.1 } in
                elim (bind_err (has_code x) (λ _. rest) e b.2) [
                  | inl code ↦ inl (code_fault src dst hop x e near t.known code)
                  | inr c ↦ inr (near, ok_code x c.0 c.1, c.2)
                ]
          ]
    ]

-- a fault of the options is the first
option_fault : (start : ℕ) (src dst : Ip6) (hop : ℕ) (x : List ℕ) (e : IcmpFault) → HasOptionsAt start src dst hop x → IsOptionFault start x e → IsFirstMessageFault src dst hop x e
option_fault start src dst hop x (OptionCut place) has is = (start, has, is)
option_fault start src dst hop x (OptionZero place) has is = (start, has, is)
option_fault start src dst hop x (Short n) has is = absurd is
option_fault start src dst hop x (Sum said found) has is = absurd is
option_fault start src dst hop x (HopLimit found) has is = absurd is
option_fault start src dst hop x (Code code) has is = absurd is
option_fault start src dst hop x Source has is = absurd is

solicit_fault : (src dst : Ip6) (hop : ℕ) (x : List ℕ) (e : IcmpFault) → IsSummed src dst x → slice_index x 0 ≡ 133 → solicit_at hop x ≡ Err e → IsFirstMessageFault src dst hop x e
unfolding solicit_at
solicit_fault src dst hop x e summed kind h =
    let m : Message = router_solicit (drop 8 x) in
    let rest : Result Message IcmpFault = whole_options (length x) 8 x >>= λ _. given m in
    elim (router_fault src dst hop rest x e (record { summed = summed; least = 8; least_is = ap least_len kind; router_is = ap is_router kind; known = ap is_known kind }) h) [
      | inl first ↦ first
      | inr a ↦ elim (bind_err (whole_options (length x) 8 x) (λ _. given m) e a.2) [
        | inl cut ↦ option_fault 8 src dst hop x e (record { near = a.0; code = a.1; kind = inl (kind, refl) }) (options_err (length x) 8 x e cut)
        | inr b ↦ absurd (no_err m e b.2)
      ]
    ]

advert_fault : (src dst : Ip6) (hop : ℕ) (x : List ℕ) (e : IcmpFault) → IsSummed src dst x → slice_index x 0 ≡ 134 → advert_at src hop x ≡ Err e → IsFirstMessageFault src dst hop x e
unfolding advert_at
advert_fault src dst hop x e summed kind h =
    let m : Message = router_advert (slice_index x 4) (slice_index x 5) (number_at 6 2 x) (number_at 8 4 x) (number_at 12 4 x) (drop 16 x) in
    let options : Result Message IcmpFault = whole_options (length x) 16 x >>= λ _. given m in
    elim (router_fault src dst hop (has_source src >>= λ _. options) x e (record { summed = summed; least = 16; least_is = ap least_len kind; router_is = ap is_router kind; known = ap is_known kind }) h) [
      | inl first ↦ first
      | inr a ↦ elim (bind_err (has_source src) (λ _. options) e a.2) [
        | inl source ↦
            let b = source_err src e source in
            subst (IsFirstMessageFault src dst hop x) b.1 (a.0, kind, a.1, b.0)
        | inr b ↦ elim (bind_err (whole_options (length x) 16 x) (λ _. given m) e b.2) [
          | inl cut ↦ option_fault 16 src dst hop x e (record { near = a.0; code = a.1; kind = inr (kind, refl, ok_source src b.0 b.1) }) (options_err (length x) 16 x e cut)
          | inr c ↦ absurd (no_err m e c.2)
        ]
      ]
    ]

echo_request_fault : (src dst : Ip6) (hop : ℕ) (x : List ℕ) (e : IcmpFault) → IsSummed src dst x → slice_index x 0 ≡ 128 → echo_request_at x ≡ Err e → IsFirstMessageFault src dst hop x e
unfolding echo_request_at
echo_request_fault src dst hop x e summed kind h = echo_fault src dst hop (echo_request (number_at 4 2 x) (number_at 6 2 x) (drop 8 x)) x e
    (record { summed = summed; least = 8; least_is = ap least_len kind; router_is = ap is_router kind; known = ap is_known kind }) h

echo_reply_fault : (src dst : Ip6) (hop : ℕ) (x : List ℕ) (e : IcmpFault) → IsSummed src dst x → slice_index x 0 ≡ 129 → echo_reply_at x ≡ Err e → IsFirstMessageFault src dst hop x e
unfolding echo_reply_at
echo_reply_fault src dst hop x e summed kind h = echo_fault src dst hop (echo_reply (number_at 4 2 x) (number_at 6 2 x) (drop 8 x)) x e
    (record { summed = summed; least = 8; least_is = ap least_len kind; router_is = ap is_router kind; known = ap is_known kind }) h

-- ---- the message

typed_fault : (src dst : Ip6) (hop : ℕ) (x : List ℕ) (e : IcmpFault) → IsSummed src dst x → typed src hop x ≡ Err e → IsFirstMessageFault src dst hop x e
typed_fault src dst hop x e summed h =
    let kind : ℕ = slice_index x 0 in
    let m : Message = other kind (slice_index x 1) (drop 4 x) in
    let fourth : Result Message IcmpFault = cond (eqb kind 134) (advert_at src hop x) (given m) in
    let third : Result Message IcmpFault = cond (eqb kind 133) (solicit_at hop x) fourth in
    let second : Result Message IcmpFault = cond (eqb kind 129) (echo_reply_at x) third in
    elim (chosen (eqb kind 128) (echo_request_at x) second (Err e) h) [
      | inl is ↦ echo_request_fault src dst hop x e summed (eqb-true _ _ is.0) is.1
      | inr a ↦ elim (chosen (eqb kind 129) (echo_reply_at x) third (Err e) a.1) [
        | inl is ↦ echo_reply_fault src dst hop x e summed (eqb-true _ _ is.0) is.1
        | inr b ↦ elim (chosen (eqb kind 133) (solicit_at hop x) fourth (Err e) b.1) [
          | inl is ↦ solicit_fault src dst hop x e summed (eqb-true _ _ is.0) is.1
          | inr c ↦ elim (chosen (eqb kind 134) (advert_at src hop x) (given m) (Err e) c.1) [
            | inl is ↦ advert_fault src dst hop x e summed (eqb-true _ _ is.0) is.1
            | inr d ↦ absurd (no_err m e d.1)
          ]
        ]
      ]
    ]

pub read_fault : (src dst : Ip6) (hop : ℕ) (x : List ℕ) (e : IcmpFault) → message_at src dst hop x ≡ Err e → IsFirstMessageFault src dst hop x e
unfolding message_at
read_fault src dst hop x e h =
    let said : ℕ = number_at 2 2 x in
    let found : ℕ = checksum_of src dst x in
    elim (guard_err (ltb (length x) 4) (Short (length x)) (cond (not (eqb said found)) (Err (Sum said found)) (typed src hop x)) e h) [
      | inl short ↦ subst (IsFirstMessageFault src dst hop x) short.1 (refl, inl (ltb-true _ _ short.0))
      | inr a ↦ elim (guard_err (not (eqb said found)) (Sum said found) (typed src hop x) e a.1) [
        | inl wrong ↦ subst (IsFirstMessageFault src dst hop x) wrong.1 (ltb-false _ _ a.0, refl, refl, eqb-false _ _ (not-true _ wrong.0))
        | inr b ↦ typed_fault src dst hop x e (record { long = ltb-false _ _ a.0; sum = eqb-true _ _ (not-false _ b.0) }) b.1
      ]
    ]

pub is_fault : {P : Type 0} (view : P → Message) (src dst : Ip6) (hop : ℕ) (x : List ℕ) (r : Result P IcmpFault) → Gives view r (message_at src dst hop x) → IfErr r (λ e. IsFirstMessageFault src dst hop x e)
is_fault view src dst hop x (Ok m) read = tt
is_fault view src dst hop x (Err e) read = read_fault src dst hop x e read
