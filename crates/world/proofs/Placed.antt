-- What is kept of an entry stays what it is while further ones come behind it.
use Rattle.world.proofs.Words.{AllByRecursion, IsInside, Item, List, Six, Span, Udp, [], all_joined, ap, arith, bytes_of, drop, drop-append-le, drop-append_seam, item_at, kept_entry, length, length-append, length-drop, map, map-append, part, refl, six, subst, sym, take, take-append-le, take-length, udp, ℕ, ◌++◌, ◌+◌, ◌∙◌, ◌∷◌, ◌≡◌, ◌≤◌}
use Rattle.world.specs.declared.entries.Entry.{Entry}

-- A PART OF SOME BYTES

part-in_front : (xs ys : List ℕ) (s : Span) → s.at + s.len ≤ length xs → part (xs ++ ys) s ≡ part xs s
part-in_front xs ys s fits =
    let before : drop s.at (xs ++ ys) ≡ drop s.at xs ++ ys = drop-append-le s.at xs ys (omega (arith, fits)) in
    let rest = length-drop s.at xs in
    ap (take s.len) before ∙ take-append-le s.len (drop s.at xs) ys (omega (arith, fits, rest))

part-behind : (xs ys : List ℕ) → part (xs ++ ys) (record { at = length xs; len = length ys }) ≡ ys
part-behind xs ys = ap (take (length ys)) (drop-append_seam xs ys) ∙ take-length ys

-- AN ENTRY

pub item-in_front : (xs ys : List ℕ) (e : Entry) → IsInside (length xs) e → item_at (xs ++ ys) e ≡ item_at xs e
item-in_front xs ys (Udp src dst span) inside = ap (udp src dst) (part-in_front xs ys span inside)
item-in_front xs ys (Six relay span) inside = ap (six relay) (part-in_front xs ys span inside)

pub item-kept_entry : (xs : List ℕ) (x : Item) → item_at (xs ++ bytes_of x) (kept_entry x (length xs)) ≡ x
item-kept_entry xs (udp src dst bytes) = ap (udp src dst) (part-behind xs bytes)
item-kept_entry xs (six relay bytes) = ap (six relay) (part-behind xs bytes)

pub kept_entry-inside : (xs : List ℕ) (x : Item) → IsInside (length (xs ++ bytes_of x)) (kept_entry x (length xs))
kept_entry-inside xs (udp src dst bytes) = subst (λ n. length xs + length bytes ≤ n) (sym (length-append xs bytes)) (omega arith)
kept_entry-inside xs (six relay bytes) = subst (λ n. length xs + length bytes ≤ n) (sym (length-append xs bytes)) (omega arith)

-- ALL OF THEM

pub items-in_front : (xs ys : List ℕ) (es : List Entry) → AllByRecursion (IsInside (length xs)) es → map (item_at (xs ++ ys)) es ≡ map (item_at xs) es
items-in_front xs ys [] all = refl
items-in_front xs ys (e ∷ es) all = rw (item-in_front xs ys e all.0, items-in_front xs ys es all.1) refl

pub inside-longer : (n m : ℕ) → n ≤ m → (es : List Entry) → AllByRecursion (IsInside n) es → AllByRecursion (IsInside m) es
inside-longer n m longer [] all = tt
inside-longer n m longer (e ∷ es) all = (omega (arith, longer, all.0), inside-longer n m longer es all.1)

-- ONE MORE BEHIND THEM

pub pushed : (all : List ℕ) (es : List Entry) (x : Item) → AllByRecursion (IsInside (length all)) es
    → map (item_at (all ++ bytes_of x)) (es ++ kept_entry x (length all) ∷ []) ≡ map (item_at all) es ++ x ∷ []
pushed all es x inside =
    rw (map-append (item_at (all ++ bytes_of x)) es (kept_entry x (length all) ∷ []), items-in_front all (bytes_of x) es inside, item-kept_entry all x) refl

pub pushed-inside : (all : List ℕ) (es : List Entry) (x : Item) → AllByRecursion (IsInside (length all)) es
    → AllByRecursion (IsInside (length (all ++ bytes_of x))) (es ++ kept_entry x (length all) ∷ [])
pushed-inside all es x inside =
    let longer : length all ≤ length (all ++ bytes_of x) = subst (λ n. length all ≤ n) (sym (length-append all (bytes_of x))) (omega arith) in
    all_joined (IsInside (length (all ++ bytes_of x))) es (kept_entry x (length all) ∷ [])
    (inside-longer (length all) (length (all ++ bytes_of x)) longer es inside) (kept_entry-inside all x, tt)
