-- The lists of what is still to come and of what was taken, as one more is taken.
use Rattle.td_outside.proofs.Words.{Arrival, Both, Came, Client, Datagram, Got, Idle, IsAtItsSide, IsAtPrimary, IsOnItsSide, List, MemArrival, None, Nothing, Option, Place, Primary, Some, [], ap, append-nil, arith, at_primary, came_by, came_from, drop, drop-drop, drop_all, drop_at, drop_more, get_or-drop, get_or_at, get_or_from_slice_get, length, length-drop, length-map, length-take-le, map, map-append, next_came, option_map, refl, replicate, set_at, slice_get, slice_get-map, slice_index_or, slice_set, subst, sym, take, take-append-drop, take_all, take_at, take_more, ℕ, ◌++◌, ◌+◌, ◌-◌, ◌<◌, ◌∙◌, ◌∷◌, ◌≡◌, ◌≤◌}
use Rattle.std.proofs.lemmas.List.{append_assoc}
use borrow.Rule.Slice.PartMut.{put_mid, Post-is}

-- The first that is still to come stands at the place of the next arrival.
next_from : (all : List Came) (at : ℕ) → next_came (drop at all) ≡ slice_index_or all at Nothing
next_from all at = get_or-drop at all 0 Nothing ∙ ap (λ (k : ℕ). slice_index_or all k Nothing) (omega arith)

pub next_arrival : (arrivals : List MemArrival) (at : ℕ) (arrival : MemArrival) → slice_get arrivals at ≡ Some arrival → came_from arrival ≡ next_came (drop at (map came_from arrivals))
next_arrival arrivals at arrival found =
    let there : slice_get (map came_from arrivals) at ≡ Some (came_from arrival) = slice_get-map came_from arrivals at ∙ ap (option_map came_from) found in
    sym (next_from (map came_from arrivals) at ∙ get_or_from_slice_get (map came_from arrivals) at (came_from arrival) Nothing there)

-- It joins what was taken, behind which no answer `Idle` stands yet.
pub taken_more : (all : List Came) (at idle : ℕ) → at < length all → idle ≡ 0 → take (at + 1) all ++ replicate idle Nothing ≡ (take at all ++ replicate idle Nothing) ++ next_came (drop at all) ∷ []
taken_more all at idle within none =
    subst (λ (n : ℕ). take (at + 1) all ++ replicate n Nothing ≡ (take at all ++ replicate n Nothing) ++ next_came (drop at all) ∷ []) (sym none)
    (append-nil (take (at + 1) all) ∙ take_more all at Nothing within ∙ ap (λ (came : Came). take at all ++ came ∷ []) (sym (next_from all at)) ∙ ap (λ (xs : List Came). xs ++ next_came (drop at all) ∷ []) (sym (append-nil (take at all))))

map_drop_one : (coming : List Came) → map at_primary coming ≡ coming → map at_primary (drop 1 coming) ≡ drop 1 coming
map_drop_one [] is = refl
map_drop_one (c ∷ coming) is = ap (drop 1) is

next_turned : (coming : List Came) → next_came (map at_primary coming) ≡ at_primary (next_came coming)
next_turned [] = refl
next_turned (c ∷ coming) = refl

turned_twice : (coming : List Came) → map at_primary (map at_primary coming) ≡ map at_primary coming
turned_twice [] = refl
turned_twice (Datagram side from bytes ∷ coming) = ap (λ (l : List Came). Datagram Primary from bytes ∷ l) (turned_twice coming)
turned_twice (Nothing ∷ coming) = ap (λ (l : List Came). Nothing ∷ l) (turned_twice coming)

pub turned_so : (coming before : List Came) → coming ≡ map at_primary before → map at_primary coming ≡ coming
turned_so coming before is = ap (map at_primary) is ∙ turned_twice before ∙ sym is

first_at_primary : (coming : List Came) (buf : List ℕ) (arrival : Arrival) → came_by buf arrival ≡ next_came coming → map at_primary coming ≡ coming → IsAtPrimary arrival
first_at_primary coming buf Idle came is = tt
first_at_primary coming buf (Got side from len) came is =
    let same : at_primary (next_came coming) ≡ next_came coming = sym (next_turned coming) ∙ ap next_came is in
    let turned : at_primary (came_by buf (Got side from len)) ≡ came_by buf (Got side from len) = ap at_primary came ∙ same ∙ sym came in
    cc

-- What is still to come to one socket is still so behind the first of it,
pub turned_on : (place : Option Place) (all : List Came) (at : ℕ) → IsOnItsSide place (drop at all) → IsOnItsSide place (drop (at + 1) all)
turned_on None all at is = tt
turned_on (Some (Both on)) all at is = tt
turned_on (Some (Client ep)) all at is =
    let next : drop (at + 1) all ≡ drop 1 (drop at all) = sym (drop-drop 1 at all) in
    subst (λ (l : List Came). map at_primary l ≡ l) (sym next) (map_drop_one (drop at all) is)

-- and the first of it comes to the primary side.
pub turned_first : (place : Option Place) (coming : List Came) (buf : List ℕ) (arrival : Arrival) → came_by buf arrival ≡ next_came coming → IsOnItsSide place coming → IsAtItsSide place arrival
turned_first None coming buf arrival came is = tt
turned_first (Some (Both on)) coming buf arrival came is = tt
turned_first (Some (Client ep)) coming buf arrival came is = first_at_primary coming buf arrival came is

-- One more of them comes to the primary side.
pub turned_one : (olds nows : List Came) (i : ℕ) → i < length olds → nows ≡ map at_primary (take i olds) ++ drop i olds
    → slice_set nows i (at_primary (slice_index_or nows i Nothing)) ≡ map at_primary (take (i + 1) olds) ++ drop (i + 1) olds
turned_one olds nows i within are =
    let front : List Came = map at_primary (take i olds) in
    let one : Came = slice_index_or olds i Nothing in
    let long : length front ≡ i = length-map (take i olds) at_primary ∙ length-take-le i olds (omega arith) in
    let here : nows ≡ front ++ one ∷ drop (i + 1) olds = are ∙ ap (λ (l : List Came). front ++ l) (drop_more olds i Nothing within) in
    let found : slice_index_or nows i Nothing ≡ one = ap (λ (l : List Came). slice_index_or l i Nothing) here ∙ get_or_at front one (drop (i + 1) olds) Nothing i long in
    let put : slice_set nows i (at_primary (slice_index_or nows i Nothing)) ≡ front ++ at_primary one ∷ drop (i + 1) olds =
    (λ k. slice_set (here k) i (at_primary (found k))) ∙ set_at front one (drop (i + 1) olds) (at_primary one) i long in
    let more : map at_primary (take (i + 1) olds) ≡ front ++ at_primary one ∷ [] = ap (map at_primary) (take_more olds i Nothing within) ∙ map-append at_primary (take i olds) (one ∷ []) in
    put ∙ sym (ap (λ (l : List Came). l ++ drop (i + 1) olds) more ∙ append_assoc front (at_primary one ∷ []) (drop (i + 1) olds))

-- Those behind the first ones come to the primary side, and the first ones stay.
pub turned_behind : (olds ys : List MemArrival) (at : ℕ) → at ≤ length olds
    → map came_from ys ≡ map at_primary (map came_from (take (length olds - at) (drop at olds)))
    → (take at (map came_from (take at olds ++ ys)) ≡ take at (map came_from olds))
    × (drop at (map came_from (take at olds ++ ys)) ≡ map at_primary (drop at (map came_from olds)))
turned_behind olds ys at within are =
    let front : List Came = map came_from (take at olds) in
    let rest : take (length olds - at) (drop at olds) ≡ drop at olds = take_all (length olds - at) (drop at olds) (omega (arith, length-drop at olds)) in
    let long : length front ≡ at = length-map (take at olds) came_from ∙ length-take-le at olds within in
    let both : map came_from (take at olds ++ ys) ≡ front ++ map came_from ys = map-append came_from (take at olds) ys in
    let whole : map came_from olds ≡ front ++ map came_from (drop at olds) = ap (map came_from) (sym (take-append-drop at olds)) ∙ map-append came_from (take at olds) (drop at olds) in (
      ap (take at) both ∙ take_at front (map came_from ys) at long ∙ sym (ap (take at) whole ∙ take_at front (map came_from (drop at olds)) at long),
      ap (drop at) both ∙ drop_at front (map came_from ys) at long ∙ are
          ∙ ap (λ (l : List MemArrival). map at_primary (map came_from l)) rest
          ∙ ap (map at_primary) (sym (ap (drop at) whole ∙ drop_at front (map came_from (drop at olds)) at long)),
    )

-- What is put in the place of all behind the first ones.
pub all_put : (xs ys : List MemArrival) (at : ℕ) → at ≤ length xs → put_mid at (length xs - at) xs ys ≡ take at xs ++ ys
all_put xs ys at within = ap (λ (l : List MemArrival). take at xs ++ (ys ++ l)) (Post-is at (length xs) xs within ∙ drop_all (length xs) xs (omega arith)) ∙ ap (λ (l : List MemArrival). take at xs ++ l) (append-nil ys)
