-- Lists of loads beside what has their bytes.
use Rattle.theory_loads.proofs.Words.{EachHasBytes, Full, HasBytesIfLoaded, List, Load, Made, Option, Some, [], arith, entry_loads, filter_map, item_in, length, load_at, lost, map, option_and_then, packet_on_wire, refl, sent, slice_get, subst, suc, zero, ℕ, ◌++◌, ◌<◌, ◌∷◌, ◌≡◌}

-- PLACES

pub load_first : (ls ms : List (Option Load)) (i : ℕ) → i < length ls → load_at (ls ++ ms) i ≡ load_at ls i
load_first [] ms i lt = absurd (omega (arith, lt))
load_first (l ∷ ls) ms zero lt = refl
load_first (l ∷ ls) ms (suc i) lt = load_first ls ms i (omega (arith, lt))

pub load_next : (ls : List (Option Load)) (l : Option Load) → load_at (ls ++ l ∷ []) (length ls) ≡ l
load_next [] l = refl
load_next (x ∷ ls) l = load_next ls l

module _ (H : List Full) where
  -- no load has nothing to have
  pub no_load_at : (i : ℕ) (o : Option (List ℕ)) → HasBytesIfLoaded H (load_at [] i) o
  no_load_at zero o = tt
  no_load_at (suc i) o = tt

  -- TWO LISTS

  pub both_have : (ls ms : List (Option Load)) (os qs : List (Option (List ℕ))) → EachHasBytes H ls os → EachHasBytes H ms qs → EachHasBytes H (ls ++ ms) (os ++ qs)
  both_have [] ms [] qs each more = more
  both_have (l ∷ ls) ms (o ∷ os) qs each more = (each.0, both_have ls ms os qs each.1 more)
  both_have [] ms (o ∷ os) qs each more = absurd each
  both_have (l ∷ ls) ms [] qs each more = absurd each

  pub has_at : {A : Type 0} (f : A → Option (List ℕ)) (ls : List (Option Load)) (xs : List A) (i : ℕ) (x : A) → EachHasBytes H ls (map f xs) → slice_get xs i ≡ Some x
      → HasBytesIfLoaded H (load_at ls i) (f x)
  has_at f [] [] i x each at = no_load_at i (f x)
  has_at {A} f (l ∷ ls) (y ∷ xs) zero x each at = subst (λ (o : Option A). HasBytesIfLoaded H l (option_and_then f o)) at each.0
  has_at f (l ∷ ls) (y ∷ xs) (suc i) x each at = has_at f ls xs i x each.1 at
  has_at f [] (y ∷ xs) i x each at = absurd each
  has_at f (l ∷ ls) [] i x each at = absurd each

-- ANOTHER HISTORY

pub each_alike : (H G : List Full) → ((l : Option Load) (o : Option (List ℕ)) → HasBytesIfLoaded H l o → HasBytesIfLoaded G l o)
    → (ls : List (Option Load)) (os : List (Option (List ℕ))) → EachHasBytes H ls os → EachHasBytes G ls os
each_alike H G alike [] [] each = tt
each_alike H G alike (l ∷ ls) (o ∷ os) each = (alike l o each.0, each_alike H G alike ls os each.1)
each_alike H G alike [] (o ∷ os) each = absurd each
each_alike H G alike (l ∷ ls) [] each = absurd each

-- WHAT A RECORD MADE

-- of what a record made, that which became an entry has the bytes of its load; what is behind all loads carries none
abbrev pub MadeHasBytes : List Full → List (Option Load) → List Made → Type 0
MadeHasBytes H [] ms = Unit {0}
MadeHasBytes H (l ∷ ls) [] = Unit {0}
MadeHasBytes H (l ∷ ls) (sent x ∷ ms) = HasBytesIfLoaded H l (packet_on_wire x) × MadeHasBytes H ls ms
MadeHasBytes H (l ∷ ls) (lost why dst bytes ∷ ms) = MadeHasBytes H ls ms

pub entries_have : (H : List Full) (ls : List (Option Load)) (ms : List Made) → MadeHasBytes H ls ms → EachHasBytes H (entry_loads ms ls) (map packet_on_wire (filter_map item_in ms))
entries_have H ls [] has = tt
entries_have H [] (sent x ∷ ms) has = (tt, entries_have H [] ms tt)
entries_have H [] (lost why dst bytes ∷ ms) has = entries_have H [] ms tt
entries_have H (l ∷ ls) (sent x ∷ ms) has = (has.0, entries_have H ls ms has.1)
entries_have H (l ∷ ls) (lost why dst bytes ∷ ms) has = entries_have H ls ms has
