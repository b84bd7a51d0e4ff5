-- How many bytes the records of a wire have at most.
use Rattle.theory_wires.proofs.Words.{AllByRecursion, AreRecordsOf, Captured, Item, List, [], arith, capture_is_bytes, false, length, length-append, longest_record, record_bytes, records_bytes, refl, ◌*◌, ◌∷◌, ◌≡◌, ◌≤◌}

-- it holds no more than both headers and the longest datagram
abbrev pub IsShort : Captured → Type 0
IsShort r = length r.bytes ≤ 1428

pub records_few : (rs : List Captured) → AllByRecursion IsShort rs → length (records_bytes false rs) ≤ longest_record * length rs
records_few [] short = omega arith
records_few (r ∷ rs) short =
    let both = length-append (record_bytes false r) (records_bytes false rs) in
    let one = capture_is_bytes.record_long false r in
    let few = short.0 in
    let rest = records_few rs short.1 in
    omega (arith, both, one, few, rest)

-- one for each entry
pub one_each : (xs : List Item) (rs : List Captured) → AreRecordsOf xs rs → length rs ≡ length xs
one_each [] [] are = refl
one_each (x ∷ xs) (r ∷ rs) are = let rest = one_each xs rs are.1 in omega (arith, rest)
one_each [] (r ∷ rs) are = absurd are
one_each (x ∷ xs) [] are = absurd are
