-- Lists in an order: what is left of them is in the same order.
use Rattle.std.proofs.Common.{◌≡◌, ◌≤◌, ◌<◌, ℕ, Bool, true, false, List, [], ◌∷◌, cond, filter, refl, sym, ap, subst, arith, ◌∙◌}
use Rattle.std.proofs.lemmas.Bool.{false≢true, le-ltb, ltb-false, ltb-true}
use Rattle.std.specs.Cmp.{IsTotalOrder}
use Rattle.std.specs.Prelude.{nat_lt}
use Rattle.std.specs.declared.cmp.Ordering.{Ordering}
use Rattle.std.specs.declared.cmp.Ordering.TheVariants.{Equal, Greater, Less}
use Rattle.std.specs.Ordering.{is_lt, ordering_reverse}
use Rattle.std.specs.List.{AllByRecursion}
use Rattle.td_base.proofs.Lists.{all_map}
use Rattle.nat_kinds.proofs.ListLemmas.{all_filter}
use Rattle.states.specs.Orders.{in_order, put_by}

-- one thing comes before another, not both before each other, and what isn't before one that isn't before a third isn't before that
pub record Orders {A : Type 0} (before : A → A → Bool) : Type 0 where
  pub turns : (a b : A) → before b a ≡ true → before a b ≡ false
  pub follows : (a b c : A) → before b a ≡ false → before c b ≡ false → before c a ≡ false

-- by a number of each
pub by_number : {A : Type 0} (key : A → ℕ) → Orders (λ (x y : A). nat_lt (key x) (key y))
by_number key = record {
  turns = λ a b is. le-ltb _ _ (let l : key b < key a = ltb-true _ _ is in omega (arith, l));
  follows = λ a b c one two. le-ltb _ _ (let l : key a ≤ key b = ltb-false _ _ one in let k : key b ≤ key c = ltb-false _ _ two in omega (arith, l, k));
}

module _ {A : Type 0} (R : A → A → Ordering) (total : IsTotalOrder R) where
  less : (x y : A) → is_lt (R x y) ≡ true → R x y ≡ Less
  less x y is = by (R x y) is where
    by : (r : Ordering) → is_lt r ≡ true → r ≡ Less
    by Less h = refl
    by Equal h = absurd (false≢true h)
    by Greater h = absurd (false≢true h)

  -- where c is before a, and a isn't after b, c is before b
  passes_on : (a b c : A) (r : Ordering) → R b a ≡ r → is_lt r ≡ false → R c a ≡ Less → R c b ≡ Less
  passes_on a b c Less e h l = absurd (false≢true (sym h))
  passes_on a b c Equal e h l = total.antisymm c b ∙ ap ordering_reverse (total.congr b a c e ∙ total.antisymm a c ∙ ap ordering_reverse l)
  passes_on a b c Greater e h l = total.trans c a b l (total.antisymm a b ∙ ap ordering_reverse e)

  -- by a total order
  pub by_order : Orders (λ (x y : A). is_lt (R x y))
  by_order = record {
    turns = λ a b is. ap is_lt (total.antisymm a b ∙ ap ordering_reverse (less b a is));
    follows = λ a b c one two. by a b c one two (is_lt (R c a)) refl;
  } where
    by : (a b c : A) → is_lt (R b a) ≡ false → is_lt (R c b) ≡ false → (t : Bool) → is_lt (R c a) ≡ t → is_lt (R c a) ≡ false
    by a b c one two false is = is
    by a b c one two true is = absurd (false≢true (sym two ∙ ap is_lt (passes_on a b c (R b a) refl one (less c a is))))

module _ {A : Type 0} (before : A → A → Bool) (o : Orders before) where
  abbrev IsSorted : List A → Type 0
  IsSorted [] = Unit {0}
  IsSorted (b ∷ bs) = AllByRecursion (λ (c : A). before c b ≡ false) bs × IsSorted bs

  -- WHAT HOLDS OF EACH

  all_put : (P : A → Type 0) (a : A) (bs : List A) → P a → AllByRecursion P bs → AllByRecursion P (put_by before a bs)
  all_put P a [] p all = (p, tt)
  all_put P a (b ∷ bs) p all = by (before b a) (all_put P a bs p all.1) where
    by : (t : Bool) → AllByRecursion P (put_by before a bs) → AllByRecursion P (cond t (b ∷ put_by before a bs) (a ∷ b ∷ bs))
    by true rest = (all.0, rest)
    by false rest = (p, all)

  pub all_ordered : (P : A → Type 0) (xs : List A) → AllByRecursion P xs → AllByRecursion P (in_order before xs)
  all_ordered P [] all = tt
  all_ordered P (x ∷ xs) all = all_put P x (in_order before xs) all.0 (all_ordered P xs all.1)

  -- IN ORDER

  put_sorted : (a : A) (bs : List A) → IsSorted bs → IsSorted (put_by before a bs)
  put_sorted a [] order = (tt, tt)
  put_sorted a (b ∷ bs) order = by (before b a) refl (put_sorted a bs order.1) where
    by : (t : Bool) → before b a ≡ t → IsSorted (put_by before a bs) → IsSorted (cond t (b ∷ put_by before a bs) (a ∷ b ∷ bs))
    by true is rest = (all_put (λ (c : A). before c b ≡ false) a bs (o.turns a b is) order.0, rest)
    by false is rest = ((is, all_map (λ (c : A). before c b ≡ false) (λ (c : A). before c a ≡ false) bs (λ c k. o.follows a b c is k) order.0), order)

  sorted : (xs : List A) → IsSorted (in_order before xs)
  sorted [] = tt
  sorted (x ∷ xs) = put_sorted x (in_order before xs) (sorted xs)

  -- WHAT IS LEFT

  module _ (p : A → Bool) where
    -- one that isn't left
    put_dropped : (a : A) (bs : List A) → p a ≡ false → filter p (put_by before a bs) ≡ filter p bs
    put_dropped a [] gone = ap (λ (t : Bool). cond t (a ∷ []) []) gone
    put_dropped a (b ∷ bs) gone = by (before b a) (put_dropped a bs gone) where
      by : (t : Bool) → filter p (put_by before a bs) ≡ filter p bs → filter p (cond t (b ∷ put_by before a bs) (a ∷ b ∷ bs)) ≡ filter p (b ∷ bs)
      by true rest = ap (λ (cs : List A). cond (p b) (b ∷ cs) cs) rest
      by false rest = ap (λ (t : Bool). cond t (a ∷ filter p (b ∷ bs)) (filter p (b ∷ bs))) gone

    -- one that none of these is before stands first
    put_first : (a : A) (bs : List A) → AllByRecursion (λ (c : A). before c a ≡ false) bs → put_by before a bs ≡ a ∷ bs
    put_first a [] all = refl
    put_first a (b ∷ bs) all = ap (λ (t : Bool). cond t (b ∷ put_by before a bs) (a ∷ b ∷ bs)) all.0

    -- and one that is left
    put_left : (a : A) (bs : List A) → IsSorted bs → p a ≡ true → filter p (put_by before a bs) ≡ put_by before a (filter p bs)
    put_left a [] order stays = ap (λ (t : Bool). cond t (a ∷ []) []) stays
    put_left a (b ∷ bs) order stays = by (before b a) refl (p b) refl (put_left a bs order.1 stays) where
      first : before b a ≡ false → AllByRecursion (λ (c : A). before c a ≡ false) (filter p bs)
      first l = all_filter (λ (c : A). before c a ≡ false) p bs (all_map (λ (c : A). before c b ≡ false) (λ (c : A). before c a ≡ false) bs (λ c k. o.follows a b c l k) order.0)

      by : (t : Bool) → before b a ≡ t → (q : Bool) → p b ≡ q → filter p (put_by before a bs) ≡ put_by before a (filter p bs)
          → filter p (cond t (b ∷ put_by before a bs) (a ∷ b ∷ bs)) ≡ put_by before a (cond q (b ∷ filter p bs) (filter p bs))
      by true is true left rest = ap (λ (t : Bool). cond t (b ∷ filter p (put_by before a bs)) (filter p (put_by before a bs))) left ∙ ap (λ (cs : List A). b ∷ cs) rest
          ∙ sym (ap (λ (t : Bool). cond t (b ∷ put_by before a (filter p bs)) (a ∷ b ∷ filter p bs)) is)
      by true is false left rest = ap (λ (t : Bool). cond t (b ∷ filter p (put_by before a bs)) (filter p (put_by before a bs))) left ∙ rest
      by false is true left rest = ap (λ (t : Bool). cond t (a ∷ filter p (b ∷ bs)) (filter p (b ∷ bs))) stays
          ∙ ap (λ (t : Bool). a ∷ cond t (b ∷ filter p bs) (filter p bs)) left
          ∙ sym (ap (λ (t : Bool). cond t (b ∷ put_by before a (filter p bs)) (a ∷ b ∷ filter p bs)) is)
      by false is false left rest = ap (λ (t : Bool). cond t (a ∷ filter p (b ∷ bs)) (filter p (b ∷ bs))) stays
          ∙ ap (λ (t : Bool). a ∷ cond t (b ∷ filter p bs) (filter p bs)) left
          ∙ sym (put_first a (filter p bs) (first is))

    -- to take some out and to order is the same in either order
    pub ordered_left : (xs : List A) → in_order before (filter p xs) ≡ filter p (in_order before xs)
    ordered_left [] = refl
    ordered_left (x ∷ xs) = by (p x) refl (ordered_left xs) where
      by : (q : Bool) → p x ≡ q → in_order before (filter p xs) ≡ filter p (in_order before xs)
          → in_order before (cond q (x ∷ filter p xs) (filter p xs)) ≡ filter p (put_by before x (in_order before xs))
      by true is rest = ap (put_by before x) rest ∙ sym (put_left x (in_order before xs) (sorted xs) is)
      by false is rest = rest ∙ sym (put_dropped x (in_order before xs) is)
