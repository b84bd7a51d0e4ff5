-- The host of b hands in a packet for a, which lists 256 others: b sends two bubbles, and the straight one is shut out by the NAT
-- of a.
use Rattle.full_tables.proofs.Words.{Entry, Ep, Event, Follows, Full, Ip6, Item, Journal, List, NatEntry, NatRefusal, None, Ok, Option, Out, PEERS_MAX, Passing, Result, Send, Sendings, Some, [], acts, answered, ap, arith, armed, blank, by_way, client, client_out, client_settings, closed, crossing, data_packet, delivers_item, delivers_to, entry_of, false, false≢true, filter_map, given, goes_in, hands_in, item_in, items_of, journal, leb-true, length, lets_in, marked, nat_answer, nat_history, nat_pasts, nat_set_up, no_ep, now, numbered, or_loss, outs_at, packet_bytes, passing, place, refl, route, route_in, same_ep, same_ip, send, sent, slice_get, sym, udp, wire, words, ℕ, ◌++◌, ◌∙◌, ◌∷◌, ◌≡◌}
use Rattle.teredo_node.specs.declared.fate.Fate.TheVariants as fate
use Rattle.events.specs.declared.event.Event.TheVariants as event
use Rattle.events.specs.declared.target.Target.TheVariants as target
use Rattle.events.specs.declared.verb.Verb.TheVariants as verb
use Rattle.history.specs.declared.act.Act.TheVariants as act
use Rattle.legal.specs.Next.{plain}
use Rattle.full_tables.proofs.PeerAddresses.{are_bytes}
use Rattle.full_tables.proofs.Filler.{IsFilled}
use Rattle.full_tables.proofs.TwoClients.{b, topology, lab, a_own}
use Rattle.full_tables.proofs.BothSettled.{both_settled, body, to_a, b_outside, a_outside, at_server, bubble, with_origin, computed}
use Rattle.full_tables.proofs.ManyListed.{fills_a, a_made, b_did_nothing, b_is_here}
use Rattle.full_tables.proofs.ListEnds.{at_end, both_long}

-- THE ENTRIES

abbrev event_to_a : Event
event_to_a = event.Host 4 (target.At a_own) body

abbrev pub straight_bubble : Item
straight_bubble = udp b_outside a_outside bubble

abbrev pub server_bubble : Item
server_bubble = udp b_outside at_server bubble

abbrev pub sent_bubble : Item
sent_bubble = udp at_server a_outside with_origin

module _ (H : List Full) (filled : IsFilled fills_a both_settled H PEERS_MAX) where
  -- THE PACKET IS HANDED IN

  abbrev pub r : Full
  r = acts lab H (numbered (place H) event_to_a) (plain verb.Host) None (now H) 4 no_ep (given to_a) (client b)

  abbrev pub e : Entry
  e = entry_of lab H (now H) 4 no_ep (given to_a) (client b)

  pub input_is : e.input ≡ given to_a
  unfolding client_out
  input_is = refl

  pub follows : Follows lab H r
  follows = record {
    goes_on = filled.over event_to_a;
    event = record { from = refl; target = a_made; short = leb-true _ _ refl; made = are_bytes body refl };
    is = sym (ap (λ (z : Ip6). hands_in lab H (numbered (place H) event_to_a) verb.Host 4 (packet_bytes (data_packet z a_own body)) (Some (client b)))
        (b_is_here H filled));
  }

  pub at_start : now H ≡ 0
  at_start = filled.moment ∙ computed.ends.moment

  pub eight : length (wire H) ≡ 8
  eight = ap (λ (xs : List Item). length xs) filled.wire ∙ computed.ends.wire

  sends_are : e.step.sends ≡ send a_outside bubble ∷ send at_server bubble ∷ []
  sends_are =
      ap (λ (j : Journal). (client_out (client_settings topology b) j (now H) to_a (words lab 4 H)).step.sends) (b_did_nothing H filled)
      ∙ ap (λ (m : ℕ). (client_out (client_settings topology b) (journal 4 both_settled) m to_a (words lab 4 H)).step.sends) at_start
      ∙ computed.two_ways.sends (words lab 4 H)

  leaves : nat_answer (nat_set_up topology 2) (nat_history lab 2 H) (now H) b.inside a_outside ≡ Ok 1024
  leaves =
      ap (λ (h : List NatEntry). nat_answer (nat_set_up topology 2) h (now H) b.inside a_outside) (filled.nats 2)
      ∙ ap (λ (m : ℕ). nat_answer (nat_set_up topology 2) (nat_history lab 2 both_settled) m b.inside a_outside) at_start
      ∙ computed.two_ways.leaves

  leaves_too : nat_answer (nat_set_up topology 2) (Out (passing 2 (now H) b.inside a_outside 1024).datagram ∷ nat_history lab 2 H) (now H) b.inside at_server
      ≡ Ok 1024
  leaves_too =
      ap (λ (h : List NatEntry). nat_answer (nat_set_up topology 2) (Out (passing 2 (now H) b.inside a_outside 1024).datagram ∷ h) (now H) b.inside at_server)
      (filled.nats 2)
      ∙ ap (λ (m : ℕ). nat_answer (nat_set_up topology 2) (Out (passing 2 m b.inside a_outside 1024).datagram ∷ nat_history lab 2 both_settled) m b.inside
      at_server) at_start
      ∙ computed.two_ways.leaves_too

  -- what comes of it
  abbrev let_out : List Passing
  let_out = passing 2 (now H) b.inside a_outside 1024 ∷ []

  abbrev gone : Sendings
  gone = record { made = sent straight_bubble ∷ sent server_bubble ∷ []; passed = passing 2 (now H) b.inside at_server 1024 ∷ let_out }

  is_gone : by_way lab H (now H) (2 ∷ []) b.inside (armed H) 0 [] e.step.sends ≡ gone
  is_gone =
      ap (λ (o : Option ℕ). by_way lab H (now H) (2 ∷ []) b.inside o 0 [] e.step.sends) filled.armed
      ∙ ap (λ (xs : List Send). by_way lab H (now H) (2 ∷ []) b.inside None 0 [] xs) sends_are
      ∙ ap (λ (z : Result ℕ NatRefusal).
      let c = answered topology (now H) 2 b.inside a_outside [] (crossing topology (nat_pasts lab H) (now H) a_outside []) z in
      let rest = by_way lab H (now H) (2 ∷ []) b.inside None 1 c.passed (send at_server bubble ∷ []) in
      record { made = marked (send a_outside bubble) (or_loss false c.leaves) ∷ rest.made; passed = rest.passed }) leaves
      ∙ ap (λ (z : Result ℕ NatRefusal).
      let c = answered topology (now H) 2 b.inside at_server let_out (crossing topology (nat_pasts lab H) (now H) at_server []) z in
      record { made = sent straight_bubble ∷ marked (send at_server bubble) (or_loss false c.leaves) ∷ []; passed = c.passed }) leaves_too

  pub made_is : r.made ≡ sent straight_bubble ∷ sent server_bubble ∷ []
  made_is = ap (λ (z : Sendings). z.made) is_gone

  pub items_are : items_of r ≡ straight_bubble ∷ server_bubble ∷ []
  items_are = ap (filter_map item_in) made_is

  pub nat_of_a_stays : nat_history lab 1 (r ∷ H) ≡ nat_history lab 1 both_settled
  nat_of_a_stays = ap (λ (ps : List Passing). outs_at 1 ps ++ nat_history lab 1 H) (ap (λ (z : Sendings). z.passed) is_gone) ∙ filled.nats 1

  pub ten : length (wire (r ∷ H)) ≡ 10
  ten = let sum = both_long (wire H) (items_of r) in let two = ap (λ (xs : List Item). length xs) items_are in omega (arith, sum, two, eight)

  -- THE STRAIGHT BUBBLE IS SHUT OUT

  first_there : slice_get (wire (r ∷ H)) 8 ≡ Some straight_bubble
  first_there = ap (λ (xs : List Item). slice_get (wire H ++ xs) 8) items_are ∙ at_end (wire H) (straight_bubble ∷ server_bubble ∷ []) 0 8 eight

  shuts : lets_in (nat_set_up topology 1) (nat_history lab 1 (r ∷ H)) (now H) b_outside 1024 ≡ None
  shuts =
      ap (λ (h : List NatEntry). lets_in (nat_set_up topology 1) h (now H) b_outside 1024) nat_of_a_stays
      ∙ ap (λ (m : ℕ). lets_in (nat_set_up topology 1) (nat_history lab 1 both_settled) m b_outside 1024) at_start
      ∙ computed.two_ways.shut

  route_is_shut : route lab (r ∷ H) (now H) straight_bubble ≡ closed 1
  unfolding same_ip same_ep
  route_is_shut = ap (λ (o : Option Ep). route_in topology (goes_in topology [] (nat_pasts lab (r ∷ H)) (now H) b_outside [] 1 o)) shuts

  abbrev pub q1 : Full
  q1 = record (blank (r ∷ H) (numbered (place (r ∷ H)) (event.Deliver 8)) (act.Deliver 8) (Some 1) fate.NatClosed) { delivered = Some 8 }

  pub follows_1 : Follows lab (r ∷ H) q1
  follows_1 = record {
    goes_on = λ more. absurd (false≢true more);
    event = leb-true _ _ refl;
    is = sym (
        ap (delivers_item lab (r ∷ H) (numbered (place (r ∷ H)) (event.Deliver 8)) 8) first_there
        ∙ ap (delivers_to lab (r ∷ H) (numbered (place (r ∷ H)) (event.Deliver 8)) 8 straight_bubble) route_is_shut
        );
  }
