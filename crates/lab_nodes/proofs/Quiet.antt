-- Until when nodes are quiet, and what follows for the tick that is due first.
use Rattle.lab_nodes.proofs.Words.{AreQuiet, AreQuietBut, AreQuietWith, AreReady, Bool, ChangesAt, DueNode, Found, Full, IsKept, IsNoSooner, IsQuietNode, IsReady, Lab, List, Millis, Node, NodesOf, None, NoneIsDue, NoneIsSooner, Option, PlayedNode, Some, [], ap, arith, cases_eq, due_as, earlier, false, false≢true, get_or, if◌then◌else◌, inl, inr, is_some, le-ltb, least_due, length, length-map, length-set, map, nat_lt, nodes, now, option_map, past_of, refl, row_of, same_Some, set, slice_get, slice_get-get_or, slice_get_within, subst, suc, sym, tick_due, tick_moment, tick_of, true, ℕ, ◌++◌, ◌+◌, ◌<◌, ◌∙◌, ◌∷◌, ◌≡◌, ◌≤◌}
use Rattle.lab_nodes.proofs.NodeLists.{front_or_last, set_there, set_elsewhere, ready_at}

-- THE BOUNDS

-- those that were looked at
abbrev pub EachQuiet : List PlayedNode → List Millis → Type 0
EachQuiet list quiet = (n : ℕ) (p : PlayedNode) (q : Millis) → slice_get list n ≡ Some p → slice_get quiet n ≡ Some q → IsQuietNode q p

pub one_more : (list : List PlayedNode) (quiet : List Millis) (p : PlayedNode) (q : Millis) → EachQuiet list quiet → slice_get list (length quiet) ≡ Some p → IsQuietNode q p
    → EachQuiet list (quiet ++ q ∷ [])
one_more list quiet p q each here is = λ n p' q' at at'.
    let same : (k : ℕ) → k ≡ 0 + k = λ (k : ℕ). omega arith in
    let P : ℕ → Millis → Type 0 = λ k x. (y : PlayedNode) → slice_get list k ≡ Some y → IsQuietNode x y in
    let last : P (length quiet) q = λ y e. subst (IsQuietNode q) (same_Some p y (sym here ∙ e)) is in
    subst (λ (k : ℕ). P k q') (sym (same n))
    (front_or_last P quiet q 0 (λ k x e. subst (λ (j : ℕ). P j x) (same k) (λ y e'. each k y x e' e)) (subst (λ (j : ℕ). P j q) (same (length quiet)) last) n q' at') p' at

-- where one node changes the others are as quiet as before
pub others_quiet : (does : PlayedNode → PlayedNode → Type 0) (n : ℕ) (old new : List PlayedNode) (quiet : List Millis) → AreQuiet old quiet → ChangesAt does n old new
    → AreQuietBut n new quiet
others_quiet does n old new quiet are changes =
    let long : length (map row_of new) ≡ length (map row_of old) = ap (λ (rows : List Node). length rows) changes.rows in
    record {
      same = are.same ∙ sym (length-map old row_of) ∙ sym long ∙ length-map new row_of;
      each = λ k apart p q here there. are.each k p q (sym (changes.elsewhere k apart) ∙ here) there;
    }

-- and with a look at that one all bounds are right
pub quiet_again : (n : ℕ) (list : List PlayedNode) (quiet : List Millis) (p : PlayedNode) (q : Millis) → AreQuietBut n list quiet → slice_get list n ≡ Some p → IsQuietNode q p
    → AreQuiet list (set quiet n q)
quiet_again n list quiet p q but here is = record {
  same = length-set quiet n q ∙ but.same;
  each = λ k p' q' at at'. elim (cases_eq k n) [
    | inl e ↦
        let at_n : slice_get list n ≡ Some p' = ap (slice_get list) (sym e) ∙ at in
        let set_n : slice_get (set quiet n q) n ≡ Some q' = ap (slice_get (set quiet n q)) (sym e) ∙ at' in
        let within : n < length quiet = omega (arith, but.same, slice_get_within list n p here) in
        let bound : q ≡ q' = same_Some q q' (sym (set_there quiet n q within) ∙ set_n) in
        subst (λ (x : Millis). IsQuietNode x p') bound (subst (IsQuietNode q) (same_Some p p' (sym here ∙ at_n)) is)
    | inr apart ↦ but.each k apart p' q' at (sym (set_elsewhere quiet n k q apart) ∙ at')
  ];
}

-- WHO COMES FIRST

pub moments_of : (lab : Lab) (H : List Full) (m n : ℕ) (a : Node) → option_map tick_moment (tick_of lab H m n a) ≡ tick_due lab H m n a
moments_of lab H m n a = by_due (tick_due lab H m n a) where
  by_due : (due : Option ℕ) → option_map tick_moment (option_map (λ (k : ℕ). record { moment = k; number = n; node = a }) due) ≡ due
  by_due None = refl
  by_due (Some k) = refl

-- a tick that isn't before the first one so far doesn't come first
pub not_first : (f : Option DueNode) (x : Option DueNode) (at : Millis) (one : Found) → Some one ≡ option_map due_as f → one.moment.0 ≤ at.0 → IsNoSooner at.0 (option_map tick_moment x)
    → earlier f x ≡ f
not_first None x at one is late quiet = absurd (false≢true (sym (ap (λ (o : Option Found). is_some o) is)))
not_first (Some a) None at one is late quiet = refl
not_first (Some a) (Some x) at one is late quiet =
    let same : one.moment.0 ≡ a.moment = ap (λ (d : Found). d.moment.0) (same_Some one (due_as a) is) in
    rw (le-ltb x.moment a.moment (omega (arith, same, late, quiet))) refl

-- THE LEAST BOUND

-- this holds of the first so many bounds: none of them is sooner
abbrev pub NoneSoonerSo : Millis → List Millis → ℕ → Type 0
NoneSoonerSo soonest quiet k = (n : ℕ) (q : Millis) → n < k → slice_get quiet n ≡ Some q → soonest.0 ≤ q.0

-- where one bound changes
pub still_sooner : (old new : Millis) (quiet : List Millis) (n : ℕ) (q : Millis) → NoneIsSooner old quiet → n < length quiet
    → (new.0 ≤ old.0) × (new.0 ≤ q.0) → NoneIsSooner new (set quiet n q)
still_sooner old new quiet n q none within both = λ k x at. elim (cases_eq k n) [
  | inl e ↦
      let bound : q ≡ x = same_Some q x (sym (set_there quiet n q within) ∙ ap (slice_get (set quiet n q)) (sym e) ∙ at) in
      subst (λ (y : Millis). new.0 ≤ y.0) bound both.1
  | inr apart ↦ let was = none k x (sym (set_elsewhere quiet n k q apart) ∙ at) in omega (arith, was, both.0)
]

-- WHAT ISN'T DUE YET

-- what isn't due before one moment isn't before one that is no later
no_sooner_still : (m n : ℕ) (due : Option ℕ) → m ≤ n → IsNoSooner n due → IsNoSooner m due
no_sooner_still m n None le late = tt
no_sooner_still m n (Some k) le late = omega (arith, le, late)

-- no tick of any node is due before m
abbrev pub NoneBefore : ℕ → List PlayedNode → Type 0
NoneBefore m list = (lab : Lab) (H : List Full) (n k : ℕ) (p : PlayedNode) → slice_get list n ≡ Some p → IsReady k p → IsKept lab.topology n (past_of lab n H) p
    → IsNoSooner m (tick_due lab H k n (row_of p))

pub none_before_soonest : (m : ℕ) (soonest : Millis) (list : List PlayedNode) (quiet : List Millis) → AreQuietWith soonest list quiet → m ≤ soonest.0 → NoneBefore m list
none_before_soonest m soonest list quiet are late = λ lab H n k p at ready kept.
    let within = slice_get_within list n p at in
    let q = get_or quiet n soonest in
    let there = slice_get-get_or quiet n soonest (omega (arith, within, are.each.same)) in
    let bound = are.none n q there in
    no_sooner_still m q.0 _ (omega (arith, late, bound)) (are.each.each n p q at there lab H n k ready kept)

neither_before : (m : ℕ) (a b : Option DueNode) → IsNoSooner m (option_map tick_moment a) → IsNoSooner m (option_map tick_moment b) → IsNoSooner m (option_map tick_moment (earlier a b))
neither_before m None b x y = y
neither_before m (Some a) None x y = x
neither_before m (Some a) (Some b) x y = by (nat_lt b.moment a.moment) where
  by : (t : Bool) → IsNoSooner m (option_map tick_moment (if t then Some b else Some a))
  by true = y
  by false = x

-- this holds of the tick of each node, counted from n on
abbrev EachBefore : Lab → List Full → ℕ → ℕ → List PlayedNode → Type 0
EachBefore lab H m n list = (k : ℕ) (p : PlayedNode) → slice_get list k ≡ Some p → IsNoSooner m (tick_due lab H (now H) (n + k) (row_of p))

least_not_before : (lab : Lab) (H : List Full) (m n : ℕ) (list : List PlayedNode) → EachBefore lab H m n list → IsNoSooner m (option_map tick_moment (least_due lab H n (map row_of list)))
least_not_before lab H m n [] each = tt
least_not_before lab H m n (p ∷ rest) each =
    let here : n + 0 ≡ n = omega arith in
    let further : (k : ℕ) → n + suc k ≡ n + 1 + k = λ (k : ℕ). omega arith in
    let first : IsNoSooner m (tick_due lab H (now H) n (row_of p)) = subst (λ (j : ℕ). IsNoSooner m (tick_due lab H (now H) j (row_of p))) here (each 0 p refl) in
    neither_before m (tick_of lab H (now H) n (row_of p)) (least_due lab H (n + 1) (map row_of rest))
    (subst (IsNoSooner m) (sym (moments_of lab H (now H) n (row_of p))) first)
    (least_not_before lab H m (n + 1) rest (λ k q at. subst (λ (j : ℕ). IsNoSooner m (tick_due lab H (now H) j (row_of q))) (further k) (each (suc k) q at)))

is_past : (end : ℕ) (x : Option DueNode) → IsNoSooner (end + 1) (option_map tick_moment x) → NoneIsDue end x
is_past end None late = tt
is_past end (Some x) late = omega (arith, late)

pub none_due : (lab : Lab) (H : List Full) (end : ℕ) (list : List PlayedNode) → NoneBefore (end + 1) list → AreReady (now H) list → NodesOf lab list H
    → NoneIsDue end (least_due lab H 0 (nodes lab.topology))
none_due lab H end list before ready of =
    let same : (k : ℕ) → k ≡ 0 + k = λ (k : ℕ). omega arith in
    let each : EachBefore lab H (end + 1) 0 list = λ k p at.
    subst (λ (j : ℕ). IsNoSooner (end + 1) (tick_due lab H (now H) j (row_of p))) (same k)
    (before lab H k (now H) p at (ready_at (now H) list k p ready at) (of.each k p at)) in
    subst (λ (rows : List Node). NoneIsDue end (least_due lab H 0 rows)) of.rows
    (is_past end (least_due lab H 0 (map row_of list)) (least_not_before lab H (end + 1) 0 list each))

-- what was found is due later
pub later_than : (end : ℕ) (o : Option Found) (x : Found) (f : Option DueNode) → o ≡ Some x → end < x.moment.0 → o ≡ option_map due_as f → NoneIsDue end f
later_than end o x None is later e = tt
later_than end o x (Some f) is later e =
    let same : x.moment.0 ≡ f.moment = ap (λ (d : Found). d.moment.0) (same_Some x (due_as f) (sym is ∙ e)) in
    omega (arith, same, later)

-- or nothing was
pub nothing_found : (end : ℕ) (o : Option Found) (f : Option DueNode) → o ≡ None → o ≡ option_map due_as f → NoneIsDue end f
nothing_found end o None is e = tt
nothing_found end o (Some f) is e = absurd (false≢true (ap (λ (x : Option Found). is_some x) (sym is ∙ e)))
