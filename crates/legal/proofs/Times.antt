-- Moments don't fall.
use Rattle.legal.proofs.Words.{Bool, DueNode, EachIsAtOnce, Ep, Event, Full, GoesOn, Grown, Item, Lab, List, Node, None, Numbered, Option, Route, Some, Verb, [], address_at, advance_with, advanced, ap, arith, astray, began, blank, closed, cond, copies, data_packet, delivers_item, delivers_or, delivers_to, echo_packet, false, first_undelivered, hands_in, has_more, is_advance, le_refl, least_due, max, nat_le, nat_tests, next_of, no_ep, node_at, nodes, now, numbered, packet_bytes, plain, reaches, refl, route, slice_get, subst, sym, target_address, ticked, true, wire, ℕ, ◌+◌, ◌∙◌, ◌∷◌, ◌≡◌, ◌≤◌}
use Rattle.teredo_node.specs.declared.fate.Fate.TheVariants as fate
use Rattle.events.specs.declared.event.Event.TheVariants as event
use Rattle.history.specs.declared.act.Act.TheVariants as act
use Rattle.events.specs.declared.verb.Verb.TheVariants as verb
use Rattle.legal.specs.Next.{acts}

-- it happens no earlier than the record before it, and no later than the end of its advance
record IsWithin (H : List Full) (end : ℕ) (r : Full) : Type 0 where
  later : now H ≤ r.moment
  ends : r.moment ≤ end

advance_within : (lab : Lab) (H : List Full) (e : Numbered) (end : ℕ) (o : Option DueNode) → now H ≤ end → IsWithin H end (advance_with lab H e end o)
advance_within lab H e end None h = record { later = h; ends = le_refl end }
advance_within lab H e end (Some a) h = by (nat_le a.moment end) refl where
  by : (b : Bool) → nat_le a.moment end ≡ b → IsWithin H end (cond b (acts lab H e act.Tick None (max a.moment (now H)) a.number no_ep ticked a.node) (advanced H e end))
  by true le =
      let within : a.moment ≤ end = grind (arith, nat_tests) in
      record { later = omega arith; ends = omega (arith, within, h) }
  by false le = record { later = h; ends = le_refl end }

-- the moment is within the advance that goes on
pub ends : (lab : Lab) (H : List Full) (ms : ℕ) → Grown lab H → GoesOn H (event.Advance ms) → now H ≤ began H + ms
ends lab [] ms g goes = omega arith
ends lab (q ∷ H) ms g goes = by (ends lab H ms g.1) (has_more q.asked q.act) refl where
  by : (GoesOn H (event.Advance ms) → now H ≤ began H + ms) → (b : Bool) → has_more q.asked q.act ≡ b → q.moment ≤ cond b (began H) q.moment + ms
  by ih true more =
      let same : event.Advance ms ≡ q.asked = goes more in
      let before : now H ≤ began H + ms = ih (subst (GoesOn H) (sym same) g.0.goes_on) in
      let is : q ≡ next_of lab H q.event (event.Advance ms) = g.0.is ∙ ap (next_of lab H q.event) (sym same) in
      let within = advance_within lab H (numbered q.event (event.Advance ms)) (began H + ms) (least_due lab H 0 (nodes lab.topology)) before in
      subst (λ (z : Full). z.moment ≤ began H + ms) (sym is) within.ends
  by ih false more = omega arith

to_later : (lab : Lab) (H : List Full) (e : Numbered) (n : ℕ) (item : Item) (r : Route) → now H ≤ (delivers_to lab H e n item r).moment
to_later lab H e n item (reaches k a) = le_refl (now H)
to_later lab H e n item (closed k) = le_refl (now H)
to_later lab H e n item astray = le_refl (now H)

item_later : (lab : Lab) (H : List Full) (e : Numbered) (n : ℕ) (o : Option Item) → now H ≤ (delivers_item lab H e n o).moment
item_later lab H e n None = le_refl (now H)
item_later lab H e n (Some item) = to_later lab H e n item (route lab H (now H) item)

or_later : (lab : Lab) (H : List Full) (e : Numbered) (last : Full) (o : Option ℕ) → now H ≤ last.moment → now H ≤ (delivers_or lab H e last o).moment
or_later lab H e last None h = h
or_later lab H e last (Some n) h = item_later lab H e n (slice_get (wire H) n)

copies_later : (H : List Full) (e : Numbered) (n : ℕ) (src dst : Ep) (o : Option Item) → now H ≤ (copies H e n src dst o).moment
copies_later H e n src dst None = le_refl (now H)
copies_later H e n src dst (Some item) = le_refl (now H)

hands_later : (lab : Lab) (H : List Full) (e : Numbered) (v : Verb) (n : ℕ) (x : List ℕ) (o : Option Node) → now H ≤ (hands_in lab H e v n x o).moment
hands_later lab H e v n x None = le_refl (now H)
hands_later lab H e v n x (Some a) = le_refl (now H)

next_later : (lab : Lab) (H : List Full) (i : ℕ) (e : Event) → Grown lab H → GoesOn H e → now H ≤ (next_of lab H i e).moment
next_later lab H i (event.Advance ms) g goes = (advance_within lab H (numbered i (event.Advance ms)) (began H + ms) (least_due lab H 0 (nodes lab.topology)) (ends lab H ms g goes)).later
next_later lab H i (event.Deliver n) g goes = item_later lab H (numbered i (event.Deliver n)) n (slice_get (wire H) n)
next_later lab H i event.Next g goes = or_later lab H (numbered i event.Next) (blank H (numbered i event.Next) (plain verb.Next) None fate.NoEntry) (first_undelivered H) (le_refl (now H))
next_later lab H i (event.Host n to body) g goes = hands_later lab H (numbered i (event.Host n to body)) verb.Host n (packet_bytes (data_packet (address_at lab H n) (target_address lab H to) body)) (node_at lab.topology n)
next_later lab H i (event.Echo n to s) g goes = hands_later lab H (numbered i (event.Echo n to s)) verb.Echo n (packet_bytes (echo_packet (address_at lab H n) (target_address lab H to) s)) (node_at lab.topology n)
next_later lab H i (event.Raw n bytes) g goes = hands_later lab H (numbered i (event.Raw n bytes)) verb.Raw n bytes (node_at lab.topology n)
next_later lab H i (event.Stranger src dst x) g goes = le_refl (now H)
next_later lab H i (event.Copy n src dst) g goes = copies_later H (numbered i (event.Copy n src dst)) n src dst (slice_get (wire H) n)
next_later lab H i (event.Restart n) g goes = le_refl (now H)
next_later lab H i (event.Forget n who) g goes = le_refl (now H)
next_later lab H i (event.Fault send) g goes = le_refl (now H)
next_later lab H i event.Settle g goes = or_later lab H (numbered i event.Settle) (blank H (numbered i event.Settle) (plain verb.Settle) None fate.Done) (first_undelivered H) (le_refl (now H))

pub is_later : (lab : Lab) (H : List Full) (r : Full) → Grown lab (r ∷ H) → now H ≤ r.moment
is_later lab H r g = subst (λ (z : Full). now H ≤ z.moment) (sym g.0.is) (next_later lab H r.event r.asked g.1 g.0.goes_on)

-- AT ONCE

to_now : (lab : Lab) (H : List Full) (e : Numbered) (n : ℕ) (item : Item) (r : Route) → (delivers_to lab H e n item r).moment ≡ now H
to_now lab H e n item (reaches k a) = refl
to_now lab H e n item (closed k) = refl
to_now lab H e n item astray = refl

item_now : (lab : Lab) (H : List Full) (e : Numbered) (n : ℕ) (o : Option Item) → (delivers_item lab H e n o).moment ≡ now H
item_now lab H e n None = refl
item_now lab H e n (Some item) = to_now lab H e n item (route lab H (now H) item)

or_now : (lab : Lab) (H : List Full) (e : Numbered) (last : Full) (o : Option ℕ) → last.moment ≡ now H → (delivers_or lab H e last o).moment ≡ now H
or_now lab H e last None h = h
or_now lab H e last (Some n) h = item_now lab H e n (slice_get (wire H) n)

copies_now : (H : List Full) (e : Numbered) (n : ℕ) (src dst : Ep) (o : Option Item) → (copies H e n src dst o).moment ≡ now H
copies_now H e n src dst None = refl
copies_now H e n src dst (Some item) = refl

hands_now : (lab : Lab) (H : List Full) (e : Numbered) (v : Verb) (n : ℕ) (x : List ℕ) (o : Option Node) → (hands_in lab H e v n x o).moment ≡ now H
hands_now lab H e v n x None = refl
hands_now lab H e v n x (Some a) = refl

next_now : (lab : Lab) (H : List Full) (i : ℕ) (e : Event) → is_advance e ≡ false → (next_of lab H i e).moment ≡ now H
next_now lab H i (event.Advance ms) other = absurd cc
next_now lab H i (event.Deliver n) other = item_now lab H (numbered i (event.Deliver n)) n (slice_get (wire H) n)
next_now lab H i event.Next other = or_now lab H (numbered i event.Next) (blank H (numbered i event.Next) (plain verb.Next) None fate.NoEntry) (first_undelivered H) refl
next_now lab H i (event.Host n to body) other = hands_now lab H (numbered i (event.Host n to body)) verb.Host n (packet_bytes (data_packet (address_at lab H n) (target_address lab H to) body)) (node_at lab.topology n)
next_now lab H i (event.Echo n to s) other = hands_now lab H (numbered i (event.Echo n to s)) verb.Echo n (packet_bytes (echo_packet (address_at lab H n) (target_address lab H to) s)) (node_at lab.topology n)
next_now lab H i (event.Raw n bytes) other = hands_now lab H (numbered i (event.Raw n bytes)) verb.Raw n bytes (node_at lab.topology n)
next_now lab H i (event.Stranger src dst x) other = refl
next_now lab H i (event.Copy n src dst) other = copies_now H (numbered i (event.Copy n src dst)) n src dst (slice_get (wire H) n)
next_now lab H i (event.Restart n) other = refl
next_now lab H i (event.Forget n who) other = refl
next_now lab H i (event.Fault send) other = refl
next_now lab H i event.Settle other = or_now lab H (numbered i event.Settle) (blank H (numbered i event.Settle) (plain verb.Settle) None fate.Done) (first_undelivered H) refl

pub is_at_once : EachIsAtOnce
is_at_once lab H r follows other = ap (λ (z : Full). z.moment) follows.is ∙ next_now lab H r.event r.asked other
