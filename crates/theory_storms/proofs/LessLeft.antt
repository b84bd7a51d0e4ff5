-- After a record that has further ones less is left of its event.
use Rattle.theory_storms.proofs.Words.{Bool, ENTRY_NUMBER_MAX, EachFalls, Event, Follows, Full, GoesOn, Grown, IsEvent, IsTopology, Item, LEFT_MAX, Lab, List, [], advances_are_bounded, advances_fall, ap, arith, began, burden, cond, false, false≢true, has_more, left, left_of_event, left_to, length, now, refl, subst, suc, sym, true, undelivered_from, was_delivered, wire, ℕ, ◌+◌, ◌<◌, ◌∙◌, ◌∷◌, ◌≡◌, ◌≤◌}
use Rattle.events.specs.declared.event.Event.TheVariants as event
use Rattle.theory_storms.proofs.Eases.{each_lightens}
use Rattle.theory_storms.proofs.FewWait.{few_wait}
use Rattle.theory_storms.proofs.Settles.{settle_delivers_new}
use Rattle.theory_storms.proofs.Weighed.{burden_is_bounded}

-- HOW MUCH CAN BE LEFT

no_longer : (H : List Full) (i : ℕ) (xs : List Item) → length (undelivered_from H i xs) ≤ length xs
no_longer H i [] = omega arith
no_longer H i (x ∷ xs) = by (was_delivered i H) (no_longer H (i + 1) xs) where
  by : (b : Bool) → length (undelivered_from H (i + 1) xs) ≤ length xs → length (cond b (undelivered_from H (i + 1) xs) (x ∷ undelivered_from H (i + 1) xs)) ≤ suc (length xs)
  by true rest = omega (arith, rest)
  by false rest = omega (arith, rest)

-- a history that keeps the rules, and has room on its wire
record HasRoom (lab : Lab) (H : List Full) : Type 0 where
  is : IsTopology lab.topology
  grown : Grown lab H
  room : length (wire H) ≤ ENTRY_NUMBER_MAX + 1

burden_few : (lab : Lab) (H : List Full) → HasRoom lab H → burden lab.topology H ≤ LEFT_MAX
burden_few lab H has =
    let all = burden_is_bounded lab.topology H in
    let entries = no_longer H 0 (wire H) in
    let packets = few_wait lab H has.is has.grown in
    let room = has.room in
    omega (arith, all, entries, packets, room)

-- where an event begins
at_rest : (lab : Lab) (H : List Full) (e : Event) → HasRoom lab H → IsEvent lab.topology e → began H ≡ now H → left_of_event lab H e ≤ LEFT_MAX
at_rest lab H (event.Advance ms) has short at = subst (λ (m : ℕ). left_to lab H (m + ms) ≤ LEFT_MAX) (sym at) (advances_are_bounded lab H ms has.is has.grown short)
at_rest lab H event.Settle has short at = burden_few lab H has
at_rest lab H (event.Deliver number) has short at = omega arith
at_rest lab H event.Next has short at = omega arith
at_rest lab H (event.Host n to body) has short at = omega arith
at_rest lab H (event.Echo n to seq) has short at = omega arith
at_rest lab H (event.Raw n x) has short at = omega arith
at_rest lab H (event.Stranger src dst x) has short at = omega arith
at_rest lab H (event.Copy number src dst) has short at = omega arith
at_rest lab H (event.Restart n) has short at = omega arith
at_rest lab H (event.Forget n who) has short at = omega arith
at_rest lab H (event.Fault send) has short at = omega arith

-- before a record no less is left than of its event
before : (lab : Lab) (H : List Full) (e : Event) → HasRoom lab H → IsEvent lab.topology e → GoesOn H e → left_of_event lab H e ≤ left lab H
before lab [] e has event goes = at_rest lab [] e has event refl
before lab (q ∷ H) e has event goes = by (has_more q.asked q.act) refl where
  by : (b : Bool) → has_more q.asked q.act ≡ b → left_of_event lab (q ∷ H) e ≤ cond b (left_of_event lab (q ∷ H) q.asked) LEFT_MAX
  by true more = let same : left_of_event lab (q ∷ H) e ≡ left_of_event lab (q ∷ H) q.asked = ap (left_of_event lab (q ∷ H)) (goes more) in omega (arith, same)
  by false last = at_rest lab (q ∷ H) e has event (ap (λ (b : Bool). cond b (began H) q.moment) last)

-- A RECORD

module _ {lab : Lab} {H : List Full} {r : Full} (is : IsTopology lab.topology) (g : Grown lab H) (follows : Follows lab H r) (more : has_more r.asked r.act ≡ true) where
  start : began (r ∷ H) ≡ began H
  start = ap (λ (b : Bool). cond b (began H) r.moment) more

  ends : {A : Type 0} {e : Event} → r.asked ≡ e → has_more e r.act ≡ false → A
  ends asked none = absurd (false≢true (sym none ∙ ap (λ (x : Event). has_more x r.act) (sym asked) ∙ more))

  -- of its event less is left after it
  less : (e : Event) → r.asked ≡ e → left_of_event lab (r ∷ H) e < left_of_event lab H e
  less (event.Advance ms) asked = subst (λ (m : ℕ). left_to lab (r ∷ H) (m + ms) < left_to lab H (began H + ms)) (sym start) (advances_fall lab H r ms is g follows asked more)
  less event.Settle asked = each_lightens lab H r is (follows, g) (settle_delivers_new lab H r (follows, g) (record { asked = asked; more = more }))
  less (event.Deliver number) asked = ends asked refl
  less event.Next asked = ends asked refl
  less (event.Host n to body) asked = ends asked refl
  less (event.Echo n to seq) asked = ends asked refl
  less (event.Raw n x) asked = ends asked refl
  less (event.Stranger src dst x) asked = ends asked refl
  less (event.Copy number src dst) asked = ends asked refl
  less (event.Restart n) asked = ends asked refl
  less (event.Forget n who) asked = ends asked refl
  less (event.Fault send) asked = ends asked refl

pub falls : EachFalls
falls lab H r is g room follows more =
    let fell = less is g follows more r.asked refl in
    let most = before lab H r.asked (record { is = is; grown = g; room = room }) follows.event follows.goes_on in
    let left_now : left lab (r ∷ H) ≡ left_of_event lab (r ∷ H) r.asked = ap (λ (b : Bool). cond b (left_of_event lab (r ∷ H) r.asked) LEFT_MAX) more in
    omega (arith, fell, most, left_now)
