-- What is left of an event, by the history and by what a world keeps.
use Rattle.world.proofs.Words.{AreReady, Bool, Draws, Event, Item, LEFT_MAX, Lab, List, NodesOf, None, Option, Some, WorldState, [], all_played_due, ap, arith, began, cond, due_as_in_the_past, entry_weight, false, filter, get_or, going, has_more, lab_in, left, left_in, left_of, left_of_event, max, nat_le, nodes, not_done_from, now, played_waits, refl, subst, sum, sum_by, sum_by-cons, sym, time_left, true, waits_as_in_the_past, was_delivered, wire, ℕ, ◌+◌, ◌-◌, ◌∙◌, ◌∷◌, ◌≡◌}
use Rattle.events.specs.declared.event.Event.TheVariants as event
use Rattle.history.specs.Full.{Full}
use Rattle.legal.specs.Left as legal
use Rattle.weights.specs.Burden as past

-- THE SAME DUE MOMENTS IN ANOTHER ORDER

sum_of_passed : (f : ℕ → ℕ) (test : ℕ → Bool) (xs : List ℕ) → sum_by f (filter test xs) ≡ sum_by (λ m. cond (test m) (f m) 0) xs
sum_of_passed f test [] = refl
sum_of_passed f test (x ∷ xs) = by (test x) (sum_of_passed f test xs) ∙ sym (sum_by-cons (λ m. cond (test m) (f m) 0) x xs) where
  by : (b : Bool) → sum_by f (filter test xs) ≡ sum_by (λ m. cond (test m) (f m) 0) xs → sum_by f (cond b (x ∷ filter test xs) (filter test xs)) ≡ cond b (f x) 0 + sum_by (λ m. cond (test m) (f m) 0) xs
  by true rest = sum_by-cons f x (filter test xs) ∙ ap (λ (n : ℕ). f x + n) rest
  by false rest = omega (arith, rest)

same_time : (end at : ℕ) (xs ys : List ℕ) → ((weight : ℕ → ℕ) → sum_by weight xs ≡ sum_by weight ys) → time_left end at xs ≡ time_left end at ys
same_time end at xs ys same =
    let f : ℕ → ℕ = λ m. end + 1 - max m at in
    let test : ℕ → Bool = λ m. nat_le m end in
    sum_of_passed f test xs ∙ same (λ m. cond (test m) (f m) 0) ∙ sym (sum_of_passed f test ys)

-- THE SAME ENTRIES

same_items : (H : List Full) (done : List Bool) (i : ℕ) (xs : List Item) → ((k : ℕ) → get_or done k false ≡ was_delivered k H) → not_done_from done i xs ≡ past.undelivered_from H i xs
same_items H done i [] same = refl
same_items H done i (x ∷ xs) same =
    let rest = same_items H done (i + 1) xs same in
    ap (λ (b : Bool). cond b (not_done_from done (i + 1) xs) (x ∷ not_done_from done (i + 1) xs)) (same i)
    ∙ ap (λ (ys : List Item). cond (was_delivered i H) ys (x ∷ ys)) rest

-- BY THE EVENT THAT GOES ON

abbrev left_so : Lab → List Full → Option Event → ℕ
left_so lab H None = LEFT_MAX
left_so lab H (Some e) = left_of_event lab H e

left_by_going : (lab : Lab) (H : List Full) → left lab H ≡ left_so lab H (going H)
left_by_going lab [] = refl
left_by_going lab (r ∷ H) = by (has_more r.asked r.act) where
  by : (b : Bool) → cond b (left_of_event lab (r ∷ H) r.asked) LEFT_MAX ≡ left_so lab (r ∷ H) (cond b (Some r.asked) None)
  by true = refl
  by false = refl

-- a world whose moment, event, nodes and wire are those of the history
pub record IsAt (d : Draws) (w : WorldState) (H : List Full) : Type 0 where
  pub moment : w.moment ≡ now H
  pub began : w.began ≡ began H
  pub going : w.going ≡ going H
  pub nodes : NodesOf (lab_in d w) w.nodes H
  pub ready : AreReady w.moment w.nodes
  pub wire : w.wire ≡ wire H
  pub done : (i : ℕ) → get_or w.done i false ≡ was_delivered i H

-- has as much left
pub left_is : (d : Draws) (w : WorldState) (H : List Full) → IsAt d w H → left (lab_in d w) H ≡ left_in w
left_is d w H is = left_by_going (lab_in d w) H ∙ ap (left_so (lab_in d w) H) (sym is.going) ∙ by w.going where
  by : (o : Option Event) → left_so (lab_in d w) H o ≡ left_of w o
  by None = refl
  by (Some (event.Advance ms)) =
      let ready : AreReady (now H) w.nodes = subst (λ (m : ℕ). AreReady m w.nodes) is.moment is.ready in
      let same : time_left (began H + ms) (now H) (all_played_due (now H) w.nodes) ≡ time_left (began H + ms) (now H) (legal.all_due (lab_in d w) H 0 (nodes w.topology)) =
      same_time (began H + ms) (now H) (all_played_due (now H) w.nodes) (legal.all_due (lab_in d w) H 0 (nodes w.topology)) (λ weight. due_as_in_the_past (lab_in d w) w.nodes H weight is.nodes ready) in
      sym same
      ∙ ap (λ (m : ℕ). time_left (began H + ms) m (all_played_due m w.nodes)) (sym is.moment)
      ∙ ap (λ (m : ℕ). time_left (m + ms) w.moment (all_played_due w.moment w.nodes)) (sym is.began)
  by (Some (event.Deliver number)) = refl
  by (Some event.Next) = refl
  by (Some (event.Host node to body)) = refl
  by (Some (event.Echo node to seq)) = refl
  by (Some (event.Raw node bytes)) = refl
  by (Some (event.Stranger src dst bytes)) = refl
  by (Some (event.Copy number src dst)) = refl
  by (Some (event.Restart node)) = refl
  by (Some (event.Forget n who)) = refl
  by (Some (event.Fault send)) = refl
  by (Some event.Settle) =
      let weight : Item → ℕ = entry_weight w.topology in
      let ready : AreReady (now H) w.nodes = subst (λ (m : ℕ). AreReady m w.nodes) is.moment is.ready in
      let items : not_done_from w.done 0 w.wire ≡ past.undelivered_items H = same_items H w.done 0 w.wire is.done ∙ ap (past.undelivered_from H 0) is.wire in
      let packets : sum (played_waits w.moment w.nodes) ≡ sum (past.waits w.topology H) = ap (λ (m : ℕ). sum (played_waits m w.nodes)) is.moment ∙ waits_as_in_the_past (lab_in d w) w.nodes H is.nodes ready in
      ap (λ (n : ℕ). sum_by weight (past.undelivered_items H) + n) (sym packets) ∙ ap (λ (xs : List Item). sum_by weight xs + sum (played_waits w.moment w.nodes)) (sym items)
