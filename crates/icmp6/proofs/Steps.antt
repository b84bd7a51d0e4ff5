-- Steps of a reader that may fail, and the tests that types share.
use Rattle.icmp6.proofs.Words.{Bool, Code, Err, HopLimit, IcmpFault, Ip6, List, Ok, Result, Short, Source, ap, cond, cond-false, cond-true, eq-eqb, eqb, eqb-true, false, guard_ok, has_code, has_hop, has_len, has_source, is_link_local, le-ltb, length, ltb, ltb-false, refl, slice_index, true, ℕ, ◌>>=◌, ◌∙◌, ◌≡◌, ◌≤◌}

-- a step that gave a value, and what comes after it
pub then_ok : {A B : Type 0} (r : Result A IcmpFault) (a : A) (f : A → Result B IcmpFault) (y : Result B IcmpFault) → r ≡ Ok a → f a ≡ y → (r >>= f) ≡ y
then_ok {A = A} r a f y is rest = ap (λ (t : Result A IcmpFault). t >>= f) is ∙ rest

-- the same where the value isn't looked at
pub past : {B : Type 0} (r : Result (Unit {0}) IcmpFault) (next y : Result B IcmpFault) → r ≡ Ok tt → next ≡ y → (r >>= λ _. next) ≡ y
past r next y is rest = ap (λ (t : Result (Unit {0}) IcmpFault). t >>= λ _. next) is ∙ rest

abbrev done : {A : Type 0} → A → Result A IcmpFault
done x = Ok x

pub ok_is : {A : Type 0} (x y : A) → done x ≡ done y → x ≡ y
ok_is x y e = cc

-- a fault where a test doesn't hold
unless_ok : {A : Type 0} (b : Bool) (d : IcmpFault) (r : Result A IcmpFault) (y : A) → cond b r (Err d) ≡ Ok y → b ≡ true
unless_ok true d r y e = refl
unless_ok false d r y e = absurd cc

abbrev fine : Result (Unit {0}) IcmpFault
fine = Ok tt

pub len_ok : (least : ℕ) (x : List ℕ) → least ≤ length x → has_len least x ≡ Ok tt
len_ok least x long = cond-false (ltb (length x) least) (Err (Short (length x))) fine (le-ltb _ _ long)

pub ok_len : (least : ℕ) (x : List ℕ) (u : Unit {0}) → has_len least x ≡ Ok u → least ≤ length x
ok_len least x u e = ltb-false _ _ (guard_ok (ltb (length x) least) (Short (length x)) fine u e).0

pub hop_ok : (hop : ℕ) → hop ≡ 255 → has_hop hop ≡ Ok tt
hop_ok hop is = cond-true (eqb hop 255) fine (Err (HopLimit hop)) (eq-eqb _ _ is)

pub ok_hop : (hop : ℕ) (u : Unit {0}) → has_hop hop ≡ Ok u → hop ≡ 255
ok_hop hop u e = eqb-true _ _ (unless_ok (eqb hop 255) (HopLimit hop) fine u e)

pub code_ok : (x : List ℕ) → slice_index x 1 ≡ 0 → has_code x ≡ Ok tt
code_ok x is = cond-true (eqb (slice_index x 1) 0) fine (Err (Code (slice_index x 1))) (eq-eqb _ _ is)

pub ok_code : (x : List ℕ) (u : Unit {0}) → has_code x ≡ Ok u → slice_index x 1 ≡ 0
ok_code x u e = eqb-true _ _ (unless_ok (eqb (slice_index x 1) 0) (Code (slice_index x 1)) fine u e)

pub source_ok : (src : Ip6) → is_link_local src ≡ true → has_source src ≡ Ok tt
source_ok src is = cond-true (is_link_local src) fine (Err Source) is

pub ok_source : (src : Ip6) (u : Unit {0}) → has_source src ≡ Ok u → is_link_local src ≡ true
ok_source src u e = unless_ok (is_link_local src) Source fine u e
