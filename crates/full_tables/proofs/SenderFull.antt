-- The host of a, which lists 256 others, hands in a packet for b: it is dropped, and draws nothing.
use Rattle.full_tables.proofs.Words.{Entry, Event, Follows, Full, FullSenderFails, GoesBetween, HasNoFault, HostHandsIn, Ip6, IsComplete, IsDropped, IsTurnedAway, Item, List, None, Option, PEERS_MAX, Some, Trial, [], acts, ap, arith, by_way, client, client_out, data_packet, entry_of, false, fields_in, fields_of, filter_map, full_sender_drops, given, hands_in, has_cone, is_bubble, is_fault, is_packet, item_in, items_of, leb-true, length, list_any, no_ep, now, numbered, packet_at, packet_bytes, place, refl, subst, sym, wire, ℕ, ◌++◌, ◌<◌, ◌∙◌, ◌∷◌, ◌≡◌, ◌≢◌, ◌≤◌}
use Rattle.events.specs.declared.event.Event.TheVariants as event
use Rattle.events.specs.declared.target.Target.TheVariants as target
use Rattle.events.specs.declared.verb.Verb.TheVariants as verb
use Rattle.legal.specs.Next.{plain}
use Rattle.full_tables.proofs.PeerAddresses.{are_bytes}
use Rattle.full_tables.proofs.LostSends.{none_fails}
use Rattle.full_tables.proofs.Filler.{IsFilled}
use Rattle.full_tables.proofs.ListEnds.{nothing_more}
use Rattle.full_tables.proofs.TwoClients.{a, b, draws, topology, lab, a_own, b_own}
use Rattle.full_tables.proofs.TwoClientsRules.{keeps_rules}
use Rattle.full_tables.proofs.BothSettled.{both_settled}
use Rattle.full_tables.proofs.ManyListed.{fills_a, b_made, a_is_settled, b_is_settled, a_is_here, a_lists_many, b_is_unlisted, a_has_no_room}
use Rattle.full_tables.proofs.ManyListed.{a_is_unlisted, b_has_room}

-- THE PACKET

abbrev body : List ℕ
body = 104 ∷ 101 ∷ 108 ∷ 108 ∷ 111 ∷ []

abbrev to_b : List ℕ
to_b = packet_bytes (data_packet a_own b_own body)

goes_to_b : GoesBetween a_own b_own to_b
unfolding packet_bytes packet_at fields_of is_packet fields_in is_bubble
goes_to_b = record { packet = refl; short = leb-true _ _ refl; no_bubble = refl; source = refl; destination = refl }

abbrev event_to_b : Event
event_to_b = event.Host 3 (target.At b_own) body

b_is_plain : has_cone b_own ≡ false
unfolding has_cone
b_is_plain = refl

nats_differ : a.nat ≢ b.nat
nats_differ = λ same. omega (arith, same)

-- THE RECORD

module _ (H : List Full) (filled : IsFilled fills_a both_settled H PEERS_MAX) where
  abbrev r : Full
  r = acts lab H (numbered (place H) event_to_b) (plain verb.Host) None (now H) 3 no_ep (given to_b) (client a)

  abbrev e : Entry
  e = entry_of lab H (now H) 3 no_ep (given to_b) (client a)

  input_is : e.input ≡ given to_b
  unfolding client_out
  input_is = refl

  follows : Follows lab H r
  follows = record {
    goes_on = filled.over event_to_b;
    event = record { from = refl; target = b_made; short = leb-true _ _ refl; made = are_bytes body refl };
    is = sym (ap (λ (z : Ip6). hands_in lab H (numbered (place H) event_to_b) verb.Host 3 (packet_bytes (data_packet z b_own body)) (Some (client a)))
        (a_is_here H filled));
  }

  sound : HasNoFault r
  sound = subst (λ (o : Option ℕ). list_any is_fault (by_way lab H (now H) (1 ∷ []) a.inside o 0 [] e.step.sends).made ≡ false) (sym filled.armed)
      (none_fails lab H (now H) (1 ∷ []) a.inside 0 [] e.step.sends)

  -- the host of a handed it in
  handed_in : HostHandsIn r 3 a_own b_own to_b
  handed_in = record { node = refl; entry = e; did = refl; packet_in = input_is; packet = goes_to_b }

  turned : IsTurnedAway lab H r 3 4 a b a_own b_own to_b
  turned = record {
    sender = refl;
    receiver = refl;
    apart = nats_differ;
    sender_settled = a_is_settled H filled;
    receiver_settled = b_is_settled H filled;
    full = a_has_no_room H filled;
    plain = b_is_plain;
    handed = handed_in;
  }

  dropped : IsDropped H r 4 a_own b_own to_b []
  dropped = full_sender_drops draws topology H r [] keeps_rules (follows, filled.grown) 3 4 a b a_own b_own to_b turned sound

  -- nothing was to be delivered
  complete : IsComplete H r []
  complete number low high =
      let items : items_of r ≡ [] = ap (filter_map item_in) dropped.nothing in
      let same : length (wire (r ∷ H)) ≡ length (wire H) = ap (λ (xs : List Item). length (wire H ++ xs)) items
      ∙ ap (λ (xs : List Item). length xs) (nothing_more (wire H)) in
      absurd (beyond number (length (wire H)) (length (wire (r ∷ H))) low same high) where
        beyond : (k before after : ℕ) → before ≤ k → after ≡ before → k < after → ⊥
        beyond k before after low still high = omega (arith, low, still, high)

  abbrev trial : Trial
  trial = record {
    draws = draws;
    topology = topology;
    before = H;
    handing = r;
    later = [];
    n = 3;
    m = 4;
    a = a;
    b = b;
    own = a_own;
    other = b_own;
    x = to_b;
  }

  pub sender_fails : FullSenderFails
  sender_fails = record {
    trial = trial;
    fair = record { rules = keeps_rules; grown = (follows, filled.grown); fresh = sound; complete = complete };
    first = record {
      sender = refl;
      receiver = refl;
      apart = nats_differ;
      sender_settled = a_is_settled H filled;
      receiver_settled = b_is_settled H filled;
      sender_unlisted = b_is_unlisted H filled;
      receiver_unlisted = a_is_unlisted H filled;
      handed = handed_in;
    };
    sender_is_full = a_lists_many H filled;
    receiver_has_room = b_has_room H filled;
    fails = dropped.kept_back;
  }
