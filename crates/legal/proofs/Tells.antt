-- No node says of a datagram or packet that came to it that its entry is missing.
use Rattle.legal.proofs.Words.{Bool, DueNode, Entry, Ep, Err, Event, Fate, Fields, Full, IsTold, Item, Journal, Lab, List, Message, Node, None, Numbered, Ok, Option, PayloadFault, Phase, Qualification, RelaySettings, Result, Route, Rule, ServerSettings, Settings, Side, Some, Standing, Value, Verb, Words, address_at, advance_with, advanced, advert_lines, advert_row, ap, arrived, astray, began, blank, by_payload, client, client_in, client_rules_fate_of_reception, client_settings, closed, cond, copies, data_packet, delivers_item, delivers_or, delivers_to, destination_in, echo_of, echo_packet, echo_request, entry_of, false, fate_of_transmission, fields_in, first_of_each, first_undelivered, from_six, hands_in, heard, is_global6, is_no_entry, journal, last_line, least_due, max, message_in, nat, nat_le, native, native_in, next_of, no_ep, node_at, nodes, not, now, numbered, packet_bytes, payload_at, phase_line, plain, reaches, reception_lines, refl, relay, relay_destination_lines, relay_given, relay_in, relay_packet_lines, relay_rules_fate_of_reception, relay_seen, relay_settings, relay_six, relay_standing_of, route, rule_of, server, server_datagram_lines, server_destination_lines, server_packet_lines, server_row, server_seen, server_settings, side_at, six, slice_get, source_in, standing_of, step_of, sym, target_address, ticked, true, udp, value_in, wire, words, ℕ, ◌++◌, ◌+◌, ◌∙◌, ◌≡◌}
use Rattle.teredo_node.specs.declared.fate.Fate.TheVariants as fate
use Rattle.qualify.specs.declared.phase.Phase.TheVariants as phase
use Rattle.client_rules.specs.Reception as reception
use Rattle.events.specs.declared.event.Event.TheVariants as event
use Rattle.history.specs.declared.act.Act.TheVariants as act
use Rattle.events.specs.declared.verb.Verb.TheVariants as verb
use Rattle.legal.specs.Next.{acts}

abbrev IsOther : Fate → Type 0
IsOther f = is_no_entry f ≡ false

-- SERVERS

server_payload : (s : ServerSettings) (side : Side) (from : Ep) (x : List ℕ) (v : Value) → IsOther (step_of s side from x v (rule_of s from v)).fate
unfolding rule_of
server_payload s side from x v =
    let a = server_seen s from v in
    first_of_each (λ (r : Rule). IsOther (step_of s side from x v r).fate) (server_datagram_lines a ++ (server_packet_lines a ++ server_destination_lines a)) last_line
    (refl, (refl, (refl, (refl, (refl, (refl, (refl, (refl, (refl, (refl, (refl, (refl, (refl, (refl, (refl, tt)))))))))))))))
    refl

server_read : (s : ServerSettings) (side : Side) (from : Ep) (x : List ℕ) (r : Result Value PayloadFault) → IsOther (by_payload s side from x r).fate
server_read s side from x (Ok v) = server_payload s side from x v
server_read s side from x (Err fault) = refl

server_tells : (s : ServerSettings) (side : Side) (from : Ep) (x : List ℕ) → IsOther (server_row s side from x).fate
unfolding server_row
server_tells s side from x = server_read s side from x (payload_at x)

-- CLIENTS

phase_tells : (p : Phase) (same : Bool) → IsOther (phase_line p same)
phase_tells phase.Cone same = refl
phase_tells phase.Restricted same = refl
phase_tells phase.Secondary true = refl
phase_tells phase.Secondary false = refl
phase_tells phase.Qualified true = refl
phase_tells phase.Qualified false = refl
phase_tells phase.Symmetric same = refl
phase_tells phase.OffLine same = refl

advert_tells : (s : Settings) (q : Qualification) (from : Ep) (v : Value) → IsOther (advert_row s q from v)
unfolding advert_row
advert_tells s q from v =
    let a = heard s q from v in
    first_of_each IsOther (advert_lines a) (phase_line a.phase a.same_origin) (refl, (refl, (refl, (refl, (refl, tt))))) (phase_tells a.phase a.same_origin)

client_row_tells : (a : reception.Seen) (f : Fate) → IsOther f → IsOther (reception.reception_row a f)
client_row_tells a f h =
    first_of_each IsOther (reception.datagram_lines a ++ (reception.server_lines a f ++ (reception.packet_lines a ++ (reception.indirect_lines a ++ reception.direct_lines a)))) fate.Suspicious
    (refl, (refl, (refl, (refl, (refl, (h, (refl, (refl, (refl, (refl, (refl, (refl, (refl, (refl, (refl, (refl, (refl, (refl, (refl, (refl, (refl, (refl, (refl, (refl, tt))))))))))))))))))))))))
    refl

client_fate_tells : (s : Settings) (a : Standing) (from : Ep) (x : List ℕ) → IsOther (reception.reception_fate s a from x)
unfolding reception.reception_fate
client_fate_tells s a from x = client_row_tells (reception.seen s a from x) (advert_row s a.qualification from (value_in x)) (advert_tells s a.qualification from (value_in x))

client_tells : (s : Settings) (j : Journal) (n : ℕ) (from : Ep) (x : List ℕ) (w : Words) → IsOther (client_in s j n from x w).step.fate
unfolding client_in
client_tells s j n from x w =
    let a = standing_of s j n (source_in x) in
    ap is_no_entry (client_rules_fate_of_reception s a from x w) ∙ client_fate_tells s a from x

-- RELAYS

relay_in_tells : (s : RelaySettings) (j : List Entry) (n : ℕ) (from : Ep) (x : List ℕ) → IsOther (relay_in s j n from x).step.fate
unfolding relay_in
relay_in_tells s j n from x =
    let a = relay_standing_of j n (source_in x) in
    ap is_no_entry (relay_rules_fate_of_reception s a from x)
    ∙ first_of_each IsOther (reception_lines (relay_seen s a from x)) fate.Unserved (refl, (refl, (refl, (refl, (refl, (refl, (refl, (refl, tt)))))))) refl

relay_six_tells : (s : RelaySettings) (j : List Entry) (n : ℕ) (x : List ℕ) → IsOther (relay_six s j n x).step.fate
unfolding relay_six
relay_six_tells s j n x =
    let a = relay_standing_of j n (destination_in x) in
    let g = relay_given s a x in
    ap is_no_entry (fate_of_transmission s a x)
    ∙ first_of_each IsOther (relay_packet_lines g ++ relay_destination_lines g) fate.Queued
    (refl, (refl, (refl, (refl, (refl, (refl, (refl, (refl, (refl, (refl, (refl, tt))))))))))) refl

-- NATIVES

echo_tells : (p : Fields) (global : Bool) (m : Option Message) → IsOther (echo_of p global m).fate
echo_tells p true (Some (echo_request id seq body)) = refl
echo_tells p true (Some _) = refl
echo_tells p true None = refl
echo_tells p false m = refl

native_tells : (x : List ℕ) → IsOther (native_in x).fate
unfolding native_in
native_tells x = echo_tells (fields_in x) (is_global6 (fields_in x).src) (message_in (fields_in x))

-- ALL NODES

came_tells : (lab : Lab) (H : List Full) (m n : ℕ) (dst from : Ep) (x : List ℕ) (a : Node) → IsOther (entry_of lab H m n dst (arrived from x) a).step.fate
came_tells lab H m n dst from x (server a) = server_tells (server_settings a) (side_at (server a) dst) from x
came_tells lab H m n dst from x (nat a) = refl
came_tells lab H m n dst from x (client c) = client_tells (client_settings lab.topology c) (journal n H) m from x (words lab n H)
came_tells lab H m n dst from x (relay r) = relay_in_tells (relay_settings lab.topology n r) (journal n H).entries m from x
came_tells lab H m n dst from x (native h) = refl

six_tells : (lab : Lab) (H : List Full) (m n : ℕ) (dst : Ep) (x : List ℕ) (a : Node) → IsOther (entry_of lab H m n dst (from_six x) a).step.fate
six_tells lab H m n dst x (server a) = refl
six_tells lab H m n dst x (nat a) = refl
six_tells lab H m n dst x (client c) = refl
six_tells lab H m n dst x (relay r) = relay_six_tells (relay_settings lab.topology n r) (journal n H).entries m x
six_tells lab H m n dst x (native h) = native_tells x

-- THE RECORD THAT FOLLOWS

to_tells : (lab : Lab) (H : List Full) (e : Numbered) (n : ℕ) (item : Item) (r : Route) → IsTold (delivers_to lab H e n item r)
to_tells lab H e n (udp src dst x) (reaches k a) = record { delivered = sym (ap not (came_tells lab H (now H) k dst src x a)) }
to_tells lab H e n (six to x) (reaches k a) = record { delivered = sym (ap not (six_tells lab H (now H) k no_ep x a)) }
to_tells lab H e n item (closed k) = record { delivered = refl }
to_tells lab H e n item astray = record { delivered = refl }

item_tells : (lab : Lab) (H : List Full) (e : Numbered) (n : ℕ) (o : Option Item) → IsTold (delivers_item lab H e n o)
item_tells lab H e n None = record { delivered = refl }
item_tells lab H e n (Some item) = to_tells lab H e n item (route lab H (now H) item)

advance_tells : (lab : Lab) (H : List Full) (e : Numbered) (end : ℕ) (o : Option DueNode) → IsTold (advance_with lab H e end o)
advance_tells lab H e end None = record { delivered = refl }
advance_tells lab H e end (Some a) = by (nat_le a.moment end) where
  by : (b : Bool) → IsTold (cond b (acts lab H e act.Tick None (max a.moment (now H)) a.number no_ep ticked a.node) (advanced H e end))
  by true = record { delivered = refl }
  by false = record { delivered = refl }

or_tells : (lab : Lab) (H : List Full) (e : Numbered) (last : Full) (o : Option ℕ) → IsTold last → IsTold (delivers_or lab H e last o)
or_tells lab H e last None is = is
or_tells lab H e last (Some n) is = item_tells lab H e n (slice_get (wire H) n)

copies_tell : (H : List Full) (e : Numbered) (n : ℕ) (src dst : Ep) (o : Option Item) → IsTold (copies H e n src dst o)
copies_tell H e n src dst None = record { delivered = refl }
copies_tell H e n src dst (Some item) = record { delivered = refl }

hands_tell : (lab : Lab) (H : List Full) (e : Numbered) (v : Verb) (n : ℕ) (x : List ℕ) (o : Option Node) → IsTold (hands_in lab H e v n x o)
hands_tell lab H e v n x None = record { delivered = refl }
hands_tell lab H e v n x (Some a) = record { delivered = refl }

pub next_tells : (lab : Lab) (H : List Full) (i : ℕ) (e : Event) → IsTold (next_of lab H i e)
next_tells lab H i (event.Advance ms) = advance_tells lab H (numbered i (event.Advance ms)) (began H + ms) (least_due lab H 0 (nodes lab.topology))
next_tells lab H i (event.Deliver n) = item_tells lab H (numbered i (event.Deliver n)) n (slice_get (wire H) n)
next_tells lab H i event.Next = or_tells lab H (numbered i event.Next) (blank H (numbered i event.Next) (plain verb.Next) None fate.NoEntry) (first_undelivered H) (record { delivered = refl })
next_tells lab H i (event.Host n to body) = hands_tell lab H (numbered i (event.Host n to body)) verb.Host n (packet_bytes (data_packet (address_at lab H n) (target_address lab H to) body)) (node_at lab.topology n)
next_tells lab H i (event.Echo n to s) = hands_tell lab H (numbered i (event.Echo n to s)) verb.Echo n (packet_bytes (echo_packet (address_at lab H n) (target_address lab H to) s)) (node_at lab.topology n)
next_tells lab H i (event.Raw n bytes) = hands_tell lab H (numbered i (event.Raw n bytes)) verb.Raw n bytes (node_at lab.topology n)
next_tells lab H i (event.Stranger src dst x) = record { delivered = refl }
next_tells lab H i (event.Copy n src dst) = copies_tell H (numbered i (event.Copy n src dst)) n src dst (slice_get (wire H) n)
next_tells lab H i (event.Restart n) = record { delivered = refl }
next_tells lab H i (event.Forget n who) = record { delivered = refl }
next_tells lab H i (event.Fault send) = record { delivered = refl }
next_tells lab H i event.Settle = or_tells lab H (numbered i event.Settle) (blank H (numbered i event.Settle) (plain verb.Settle) None fate.Done) (first_undelivered H) (record { delivered = refl })
