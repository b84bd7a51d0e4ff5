-- What a client sends, by the fates.
use Rattle.client_rules.proofs.Words.{AllByRecursion, AreBytes, BUBBLE_HOP, Bool, Cone, Due, EachSendIsBytes, Entry, Ep, Fate, IfSome, Input, Ip6, IsBytes, IsBytes-append, IsBytes-big_bytes, IsBytesSend, IsIp6, IsMadeClient, IsMadeInput, Journal, List, MessageFits, None, OffLine, Option, Phase, Qualification, Qualified, ROUTER_HOP, Restricted, SOLICITATIONS_MAX, Secondary, Settings, Some, Standing, Symmetric, TEST_ID, TEST_SEQ, Value, Words, [], all_routers, are_bytes, arith, arrived, asks, big_bytes, both_bubbles, bubble_reads_back, byte_first, client_entry, client_in, client_out, client_tick, cond, destination_in, destination_made, direct_bubble, due_at, due_fate, due_step, echo_request, false, fields_in, first_peer, from_six, given_to, has_cone, indications_bytes, is_barred, is_cone, is_spent, is_teredo, known_in, link_local, link_local_tells, map, message_is_bytes, message_is_carried, message_packet, nat_lt, no_bytes, nonce_from, number_first, option_to_list, origin_in, own_address, packet_bytes, packet_is_bytes, packet_is_spelled, payload_is_spelled, peer_of_due, qualification, queues, reception, reception_fate, reception_step, refl, releases, router_solicit, send, solicitation, solicits_by, source_in, source_made, standing_at, standing_of, subst, sym, test, test_bytes, tick, ticked, transmission, transmission_row, transmission_step, tries, tries_by, tries_peer, true, try_sends, unspecified, unwrap_or, value_in, zeros_are, ℕ, ◌∷◌, ◌≡◌}
use Rattle.teredo_node.specs.declared.fate.Fate.TheVariants as fate
use Rattle.teredo_node.specs.Journal.{given}
use Rattle.client_rules.specs.Ticks.{nothing}
use Rattle.client_rules.proofs.MadeWaiting.{IsMadeJournal, journal_is, next_peer}

-- KINDS OF DATAGRAMS

pub unspecified_is : IsIp6 unspecified
unspecified_is = (refl, zeros_are 16)

test_is : (own p : Ip6) (nonce : ℕ) → IsIp6 own → IsIp6 p → IsBytes (test_bytes own p nonce)
test_is own p nonce from to =
    let body : List ℕ = big_bytes 8 nonce in
    let m = echo_request TEST_ID TEST_SEQ body in
    let fits : MessageFits (echo_request TEST_ID TEST_SEQ (big_bytes 8 nonce)) = (omega arith, omega arith) in
    let c = message_is_carried BUBBLE_HOP own p m (record { hop_fits = omega arith; src_fits = from; dst_fits = to; fits = fits; valid = tt; short = omega arith }) in
    let b = (message_is_bytes own p m).bytes fits (IsBytes-big_bytes 8 nonce) in
    (packet_is_bytes (message_packet BUBBLE_HOP own p m) c.packet).bytes b

solicitation_is : (s : Settings) (cone : Bool) (nonce : ℕ) → IsMadeClient s → IsBytes (solicitation s cone nonce)
unfolding solicitation
solicitation_is s cone nonce made =
    let own = link_local_tells cone s.inside made.inside in
    let m = router_solicit [] in
    let routers : IsIp6 all_routers = (refl, are_bytes all_routers.0 refl) in
    let c = message_is_carried ROUTER_HOP (link_local cone s.inside) all_routers m (record {
      hop_fits = omega arith;
      src_fits = own.sixteen;
      dst_fits = routers;
      fits = tt;
      valid = record { near = refl; whole = record { options = []; each = tt; bytes = refl } };
      short = omega arith;
    }) in
    let b = (message_is_bytes (link_local cone s.inside) all_routers m).bytes tt no_bytes.each in
    let p = (packet_is_bytes (message_packet ROUTER_HOP (link_local cone s.inside) all_routers m) c.packet).bytes b in
    let lead : AreBytes (indications_bytes (Some nonce) None) = byte_first 0 (omega arith)
    (byte_first 1 (omega arith) (byte_first 0 (omega arith) (byte_first 0 (omega arith) (number_first 8 nonce (byte_first 0 (omega arith) no_bytes))))) in
    IsBytes-append (indications_bytes (Some nonce) None) (packet_bytes (message_packet ROUTER_HOP (link_local cone s.inside) all_routers m)) lead.each p

bubbles_are : (cone : Bool) (own p : Ip6) → IsIp6 own → IsIp6 p → AllByRecursion IsBytesSend (both_bubbles cone own p)
bubbles_are true own p from to = ((bubble_reads_back own p from to).bytes, tt)
bubbles_are false own p from to = ((bubble_reads_back own p from to).bytes, ((bubble_reads_back own p from to).bytes, tt))

try_is : (s : Settings) (own p : Ip6) (w : Words) → IsIp6 own → IsIp6 p → AllByRecursion IsBytesSend (try_sends s own p w)
unfolding try_sends test
try_is s own p w from to = by (is_teredo p) where
  by : (b : Bool) → AllByRecursion IsBytesSend (tries_by b s own p w)
  by true = bubbles_are (has_cone own) own p from to
  by false = (test_is own p (nonce_from w) from to, tt)

released : (to : Ep) (xs : List (List ℕ)) → AllByRecursion IsBytes xs → AllByRecursion IsBytesSend (releases to xs)
released to [] a = tt
released to (x ∷ xs) a = (a.0, released to xs a.1)

-- STEPS

-- what stands ready for a step
record IsReadyMade (a : Standing) : Type 0 where
  own : IsIp6 (own_address a.qualification)
  waiting : AllByRecursion IsBytes (known_in a).waiting

answered : (own p : Ip6) (o : Option Ep) → IsIp6 own → IsIp6 p → AllByRecursion IsBytesSend (map (direct_bubble own p) (option_to_list o))
answered own p None from to = tt
answered own p (Some ep) from to = ((bubble_reads_back own p from to).bytes, tt)

received : (s : Settings) (a : Standing) (from : Ep) (x : List ℕ) (v : Value) (w : Words) (f : Fate) → IsReadyMade a → IsIp6 v.packet.src → AllByRecursion IsBytesSend (reception_step s a from x v w f).sends
unfolding test
received s a from x v w fate.Indirect r src = answered (own_address a.qualification) v.packet.src (origin_in v.lead) r.own src
received s a from x v w fate.Rule1 r src = released from (known_in a).waiting r.waiting
received s a from x v w fate.Rule1Bubble r src = released from (known_in a).waiting r.waiting
received s a from x v w fate.Rule2 r src = released from (known_in a).waiting r.waiting
received s a from x v w fate.Rule3 r src = released from (known_in a).waiting r.waiting
received s a from x v w fate.Rule3Bubble r src = released from (known_in a).waiting r.waiting
received s a from x v w fate.HeldTest r src = (test_is (own_address a.qualification) v.packet.src (nonce_from w) r.own src, tt)
received s a from x v w fate.SuspiciousTest r src = (test_is (own_address a.qualification) v.packet.src (nonce_from w) r.own src, tt)
received s a from x v w _ r src = tt

to_trusted : (o : Option Ep) (x : List ℕ) → IsBytes x → AllByRecursion IsBytesSend (map (λ (at : Ep). send at x) (option_to_list o))
to_trusted None x h = tt
to_trusted (Some ep) x h = (h, tt)

queued : (barred : Bool) (s : Settings) (a : Standing) (p : Ip6) (w : Words) → IsReadyMade a → IsIp6 p → AllByRecursion IsBytesSend (queues barred s a p w).sends
queued true s a p w r to = tt
queued false s a p w r to = try_is s (own_address a.qualification) p w r.own to

sent : (s : Settings) (a : Standing) (x : List ℕ) (p : Ip6) (w : Words) (f : Fate) → IsReadyMade a → IsBytes x → IsIp6 p → AllByRecursion IsBytesSend (transmission_step s a x p w f).sends
sent s a x p w fate.Sent r h to = to_trusted (known_in a).trusted x h
sent s a x p w fate.SentCone r h to = (h, tt)
sent s a x p w fate.Queued r h to = queued (is_barred a.moment (known_in a)) s a p w r to
sent s a x p w _ r h to = tt

solicited : (s : Settings) (q : Qualification) (w : Words) (phase : Phase) (sends : ℕ) → IsMadeClient s → AllByRecursion IsBytesSend (solicits_by s q w (due_fate phase sends)).sends
solicited s q w Cone sends made = by (nat_lt sends SOLICITATIONS_MAX) where
  by : (b : Bool) → AllByRecursion IsBytesSend (solicits_by s q w (cond b fate.RsCone fate.RsRestricted)).sends
  by true = (solicitation_is s true (nonce_from w) made, tt)
  by false = (solicitation_is s false (nonce_from w) made, tt)
solicited s q w Restricted sends made = by (nat_lt sends SOLICITATIONS_MAX) where
  by : (b : Bool) → AllByRecursion IsBytesSend (solicits_by s q w (cond b fate.RsRestricted fate.OffLine)).sends
  by true = (solicitation_is s false (nonce_from w) made, tt)
  by false = tt
solicited s q w Secondary sends made = by (nat_lt sends SOLICITATIONS_MAX) where
  by : (b : Bool) → AllByRecursion IsBytesSend (solicits_by s q w (cond b fate.RsSecondary fate.OffLine)).sends
  by true = (solicitation_is s false (nonce_from w) made, tt)
  by false = tt
solicited s q w Qualified sends made = (solicitation_is s (is_cone q) (nonce_from w) made, tt)
solicited s q w Symmetric sends made = tt
solicited s q w OffLine sends made = tt

-- an address, and in its place the unspecified one
pub or_unspecified : (o : Option Ip6) → IfSome o IsIp6 → IsIp6 (unwrap_or o unspecified)
or_unspecified None h = unspecified_is
or_unspecified (Some p) h = h

ticks_of : (s : Settings) (n : ℕ) (q : Qualification) (w : Words) (due : Due) → IsMadeClient s → IsIp6 (own_address q) → IfSome (peer_of_due due) IsIp6 → AllByRecursion IsBytesSend (tick s n q w due).sends
unfolding due_step
ticks_of s n q w asks made own peer = solicited s q w q.phase q.sends made
ticks_of s n q w (tries l) made own peer = by (is_spent n l.peer) where
  by : (b : Bool) → AllByRecursion IsBytesSend (tries_peer b s q l w).sends
  by true = tt
  by false = try_is s (own_address q) l.who w own peer
ticks_of s n q w nothing made own peer = tt

-- ANY ENTRY

ready : (s : Settings) (j : Journal) (n : ℕ) (p : Option Ip6) → IsMadeJournal s j → IsReadyMade (standing_of s j n p)
unfolding standing_at own_address
ready s j n p m = record { own = or_unspecified (qualification s j).address m.address; waiting = m.waiting n (unwrap_or p unspecified) }

of_entry : (s : Settings) (j : Journal) (n : ℕ) (input : Input) (w : Words) → IsMadeClient s → IsMadeJournal s j → IsMadeInput input → IfSome (client_entry s j n input w).peer IsIp6
    → AllByRecursion IsBytesSend (client_entry s j n input w).step.sends
unfolding client_in client_out client_tick reception transmission own_address
of_entry s j n (arrived from x) w made m h peer =
    received s (standing_of s j n (source_in x)) from x (value_in x) w (reception_fate s (standing_of s j n (source_in x)) from x) (ready s j n (source_in x) m) (source_made x h.1)
of_entry s j n (given x) w made m h peer =
    sent s (standing_of s j n (destination_in x)) x (fields_in x).dst w (transmission_row (given_to s (standing_of s j n (destination_in x)) x)) (ready s j n (destination_in x) m) h (destination_made x h)
of_entry s j n (from_six x) w made m h peer = tt
of_entry s j n ticked w made m h peer = ticks_of s n (qualification s j) w (due_at n (qualification s j) (first_peer j n)) made (or_unspecified (qualification s j).address m.address) peer

pub each_send_is_bytes : EachSendIsBytes
each_send_is_bytes s j e is made h a =
    let m = journal_is s j is.1 made a in
    let peer = next_peer s j e is.1 a h is.0.words is.0.is in
    let same : e ≡ client_entry s j e.moment e.input is.0.words = is.0.is in
    subst (λ (x : Entry). AllByRecursion IsBytesSend x.step.sends) (sym same)
    (of_entry s j e.moment e.input is.0.words made m h (subst (λ (x : Entry). IfSome x.peer IsIp6) same peer))
