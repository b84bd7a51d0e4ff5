-- The ticks of an advance, and its end.
use Rattle.world.proofs.Words.{Bool, Draws, DueNode, Event, Going, IsAgain, IsFound, IsGoing, Lab, Last, List, More, Node, None, NoneIsDue, Ok, Option, Plays, PlaysTurn, Record, Some, StandsFor, Stop, Stops, WorldState, [], acts, advance_with, advanced, ap, arith, began, began_in, due_as, earlier, event_in, false, false≢true, fresh_record, get_or, inl, inr, is_some, lab_in, least_due, max, nat_le, nat_lt, nat_tests, next_of, no_ep, node_at, nodes, now, numbered, option_map, plain, refl, same_Some, slice_get, subst, suc, sym, tick_due, ticked, ticks_at, true, with_deed, ℕ, ◌+◌, ◌∙◌, ◌∷◌, ◌≡◌, ◌≤◌, ◌⊎◌}
use Rattle.teredo_node.specs.declared.fate.Fate.TheVariants as fate
use Rattle.history.specs.declared.act.Act.TheVariants as act
use Rattle.events.specs.declared.verb.Verb.TheVariants as verb
use Rattle.events.specs.declared.event.Event.TheVariants as event
use Rattle.history.specs.Full.{Full}
use Rattle.lab_nodes.specs.declared.due.Due as found
use Rattle.world.specs.declared.going.Going.TheVariants as going_on
use Rattle.world.proofs.Played.{rests}

-- WHOSE TICK IT IS

one_of : (a b : Option DueNode) (x : DueNode) → earlier a b ≡ Some x → (a ≡ Some x) ⊎ (b ≡ Some x)
one_of None b x e = inr e
one_of (Some a) None x e = inl e
one_of (Some a) (Some b) x e = by (nat_lt b.moment a.moment) refl where
  by : (less : Bool) → nat_lt b.moment a.moment ≡ less → (Some a ≡ Some x) ⊎ (Some b ≡ Some x)
  by true is = inr (sym (rw is refl) ∙ e)
  by false is = inl (sym (rw is refl) ∙ e)

-- the tick of a node, where one is due
abbrev tick_at : ℕ → Node → ℕ → DueNode
tick_at n a m = record { moment = m; number = n; node = a }

whose : (n : ℕ) (a : Node) (o : Option ℕ) (x : DueNode) → option_map (tick_at n a) o ≡ Some x → (n ≡ x.number) × (a ≡ x.node)
whose n a None x e = absurd (false≢true (ap (λ (o : Option DueNode). is_some o) e))
whose n a (Some m) x e = let same = same_Some (tick_at n a m) x e in (ap (λ (y : DueNode). y.number) same, ap (λ (y : DueNode). y.node) same)

among : (lab : Lab) (H : List Full) (n : ℕ) (ns : List Node) (x : DueNode) → least_due lab H n ns ≡ Some x → (k : ℕ) × (x.number ≡ n + k) × (slice_get ns k ≡ Some x.node)
among lab H n [] x e = absurd (false≢true (ap (λ (o : Option DueNode). is_some o) e))
among lab H n (a ∷ rest) x e = by (one_of (option_map (tick_at n a) (tick_due lab H (now H) n a)) (least_due lab H (n + 1) rest) x e) (λ h. among lab H (n + 1) rest x h) where
  by : (option_map (tick_at n a) (tick_due lab H (now H) n a) ≡ Some x) ⊎ (least_due lab H (n + 1) rest ≡ Some x)
      → (least_due lab H (n + 1) rest ≡ Some x → (k : ℕ) × (x.number ≡ n + 1 + k) × (slice_get rest k ≡ Some x.node))
      → (k : ℕ) × (x.number ≡ n + k) × (slice_get (a ∷ rest) k ≡ Some x.node)
  by (inl mine) later = let is = whose n a (tick_due lab H (now H) n a) x mine in let at = is.0 in (0, omega (arith, at), ap (λ (b : Node). Some b) is.1)
  by (inr other) later = let is = later other in let at = is.1 in (suc is.0, omega (arith, at), is.2)

-- the node of the tick that is due first is there
pub due_is_there : (lab : Lab) (H : List Full) (x : DueNode) → least_due lab H 0 (nodes lab.topology) ≡ Some x → node_at lab.topology x.number ≡ Some x.node
due_is_there lab H x e =
    let is = among lab H 0 (nodes lab.topology) x e in
    let at = is.1 in
    let same : x.number ≡ is.0 = omega (arith, at) in
    ap (node_at lab.topology) same ∙ is.2

-- AS A WORLD FINDS IT

abbrev ms_of : Event → ℕ
ms_of (event.Advance ms) = ms
ms_of _ = 0

abbrev takes_time : Event → Bool
takes_time (event.Advance ms) = true
takes_time _ = false

-- the tick that was found is the first one
pub found_first : (lab : Lab) (H : List Full) (x : found.Due) → Some x ≡ option_map due_as (least_due lab H 0 (nodes lab.topology)) → IsFound lab H x
found_first lab H x is = by (least_due lab H 0 (nodes lab.topology)) refl is where
  by : (l : Option DueNode) → least_due lab H 0 (nodes lab.topology) ≡ l → Some x ≡ option_map due_as l → IsFound lab H x
  by None least same = absurd (false≢true (ap (λ (o : Option found.Due). is_some o) (sym same)))
  by (Some y) least same = record { tick = y; least = least; is = same_Some (due_as y) x (sym same) }

-- an advance that goes on isn't over
pub in_going : (m : ℕ) (g : Option Going) (ms : ℕ) → IsAgain (event_in g) (event.Advance ms) → IsGoing m g → m ≤ began_in m g + ms
in_going m None ms again is = omega arith
in_going m (Some going_on.Settle) ms again is = absurd (false≢true (ap takes_time (sym again)))
in_going m (Some (going_on.Advance began long)) ms again is = let same : ms ≡ long = ap ms_of again in omega (arith, same, is)

-- WHAT FOLLOWS

-- a tick that is due up to the end
pub next_is_tick : (d : Draws) (w : WorldState) (H : List Full) (i ms : ℕ) (x : DueNode) → StandsFor d w H → least_due (lab_in d w) H 0 (nodes w.topology) ≡ Some x → x.moment ≤ w.began + ms
    → next_of (lab_in d w) H i (event.Advance ms) ≡ ticks_at d w H (numbered i (event.Advance ms)) x
next_is_tick d w H i ms x s least within =
    let lab = lab_in d w in
    let e = numbered i (event.Advance ms) in
    let start = s.began in
    let passed : nat_le x.moment (began H + ms) ≡ true = grind (arith, nat_tests, start, within) in
    let tick = acts lab H e act.Tick None (max x.moment (now H)) x.number no_ep ticked x.node in
    let chosen : advance_with lab H e (began H + ms) (Some x) ≡ tick = rw passed refl in
    ap (advance_with lab H e (began H + ms)) least ∙ chosen ∙ ap (λ (m : ℕ). acts lab H e act.Tick None (max x.moment m) x.number no_ep ticked x.node) (sym s.moment)

-- the end, where none is
pub next_is_end : (d : Draws) (w : WorldState) (H : List Full) (i ms : ℕ) → StandsFor d w H → NoneIsDue (w.began + ms) (least_due (lab_in d w) H 0 (nodes w.topology))
    → next_of (lab_in d w) H i (event.Advance ms) ≡ advanced H (numbered i (event.Advance ms)) (w.began + ms)
next_is_end d w H i ms s past = by (least_due (lab_in d w) H 0 (nodes w.topology)) refl past where
  by : (o : Option DueNode) → least_due (lab_in d w) H 0 (nodes w.topology) ≡ o → NoneIsDue (w.began + ms) o → next_of (lab_in d w) H i (event.Advance ms) ≡ advanced H (numbered i (event.Advance ms)) (w.began + ms)
  by None is past = ap (advance_with (lab_in d w) H (numbered i (event.Advance ms)) (began H + ms)) is ∙ ap (λ (m : ℕ). advanced H (numbered i (event.Advance ms)) (m + ms)) (sym s.began)
  by (Some x) is past =
      let start = s.began in
      let later : nat_le x.moment (began H + ms) ≡ false = grind (arith, nat_tests, start, past) in
      let chosen : advance_with (lab_in d w) H (numbered i (event.Advance ms)) (began H + ms) (Some x) ≡ advanced H (numbered i (event.Advance ms)) (began H + ms) = rw later refl in
      ap (advance_with (lab_in d w) H (numbered i (event.Advance ms)) (began H + ms)) is ∙ chosen ∙ ap (λ (m : ℕ). advanced H (numbered i (event.Advance ms)) (m + ms)) (sym s.began)

-- time passes up to the end
pub passes : (d : Draws) (old new : WorldState) (H : List Full) (i ms : ℕ) → StandsFor d old H → NoneIsDue (old.began + ms) (least_due (lab_in d old) H 0 (nodes old.topology))
    → (new.moment ≡ old.began + ms) × (new.nodes ≡ old.nodes) × (new.nats ≡ old.nats) × (new.wire ≡ old.wire) × (new.done ≡ old.done) × (new.armed ≡ old.armed)
    → PlaysTurn d old new H (next_of (lab_in d old) H i (event.Advance ms)) (Ok (Last (with_deed (fresh_record i (old.began + ms)) (plain verb.Advance) None fate.Done)))
passes d old new H i ms s past same =
    let r = advanced H (numbered i (event.Advance ms)) (old.began + ms) in
    subst (λ (z : Full). PlaysTurn d old new H z (Ok (Last (with_deed (fresh_record i (old.began + ms)) (plain verb.Advance) None fate.Done)))) (sym (next_is_end d old H i ms s past)) (
      refl,
      refl,
      rests d old new H r s.nodes s.nats (record {
        still = record { entry = refl; made = refl; passed = refl; nothing = refl };
        moment = same.0;
        nodes = same.1;
        nats = same.2;
        wire = same.3;
        done = λ k. ap (λ bs. get_or bs k false) same.4;
      }) (same.5 ∙ s.armed),
    )

-- a tick is played
pub ticks : (d : Draws) (old new : WorldState) (H : List Full) (i ms : ℕ) (x : DueNode) (word : Record) → StandsFor d old H → least_due (lab_in d old) H 0 (nodes old.topology) ≡ Some x → x.moment ≤ old.began + ms
    → Plays d old new H (ticks_at d old H (numbered i (event.Advance ms)) x) (Ok word) → PlaysTurn d old new H (next_of (lab_in d old) H i (event.Advance ms)) (Ok (More word))
ticks d old new H i ms x word s least within plays =
    subst (λ (z : Full). PlaysTurn d old new H z (Ok (More word))) (sym (next_is_tick d old H i ms x s least within)) (plays.0, refl, plays.1)

-- or isn't
pub tick_stops : (d : Draws) (old new : WorldState) (H : List Full) (i ms : ℕ) (x : DueNode) (why : Stop) → StandsFor d old H → least_due (lab_in d old) H 0 (nodes old.topology) ≡ Some x → x.moment ≤ old.began + ms
    → Stops d old new H (ticks_at d old H (numbered i (event.Advance ms)) x) why → Stops d old new H (next_of (lab_in d old) H i (event.Advance ms)) why
tick_stops d old new H i ms x why s least within stops = subst (λ (z : Full). Stops d old new H z why) (sym (next_is_tick d old H i ms x s least within)) stops
