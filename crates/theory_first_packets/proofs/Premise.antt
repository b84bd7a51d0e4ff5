-- What the premise of a packet says: two settled clients, and the record in which the packet is handed in.
use Rattle.theory_first_packets.proofs.Words.{Entry, Full, Grown, HasNoFault, IsChained, IsNextPacketAlong, IsTopology, List, client, entry_of, false, fields_in, given, is_big, length, no_ep, now, sym, wire, ◌∷◌, ◌≡◌}
use Rattle.theory_first_packets.proofs.passing.Ends.{IsEnd, Settles, is_end}
use Rattle.theory_first_packets.proofs.Deliveries.{Did, Handing}
use Rattle.theory_first_packets.proofs.HandedIn as handed_in
use Rattle.theory_first_packets.proofs.HandedIn.{IsHandedIn}
use Rattle.theory_first_packets.proofs.schedule.Pair.{Pair, IsPair, meets}

-- THE SITUATION

-- the first record after a history, in which the sender's host hands in the packet of a pair
pub record IsStart (p : Pair) (H : List Full) (r : Full) : Type 0 where
  pub rules : IsTopology p.lab.topology
  pub chained : IsChained p.lab
  pub grown : Grown p.lab (r ∷ H)
  pub first : IsNextPacketAlong p.lab H r p.a.n p.b.n p.a.c p.b.c p.a.own p.b.own p.x
  pub sound : HasNoFault r

module _ (p : Pair) (H : List Full) (r : Full) (start : IsStart p H r) where
  -- both are settled
  pub sender_settles : Settles p.lab H p.a.n p.a.c p.a.own
  sender_settles = record {
    rules = start.rules;
    chained = start.chained;
    grown = start.grown.1;
    client = start.first.clients.sender;
    settled = start.first.clients.sender_settled;
  }

  pub receiver_settles : Settles p.lab H p.b.n p.b.c p.b.own
  receiver_settles = record {
    rules = start.rules;
    chained = start.chained;
    grown = start.grown.1;
    client = start.first.clients.receiver;
    settled = start.first.clients.receiver_settled;
  }

  -- so both are ends
  pub sender_end : IsEnd p.lab p.a.n p.a.c p.a.own
  sender_end = is_end p.lab H p.a.n p.a.c p.a.own sender_settles

  pub receiver_end : IsEnd p.lab p.b.n p.b.c p.b.own
  receiver_end = is_end p.lab H p.b.n p.b.c p.b.own receiver_settles

  -- the host handed the packet in
  is_handed_in : IsHandedIn p.lab H r p.a.n (client p.a.c) p.x
  is_handed_in = record {
    rules = start.rules;
    grown = start.grown;
    there = sender_end.there;
    own = p.a.own;
    other = p.b.own;
    handed = start.first.handed;
  }

  pub hand : Handing p.lab H r p.a.n (client p.a.c) p.x
  hand = handed_in.hand p.lab H r p.a.n (client p.a.c) p.x is_handed_in

  -- what the sender did
  abbrev pub e : Entry
  e = entry_of p.lab H (now H) p.a.n no_ep (given p.x) (client p.a.c)

  pub did : Did p.lab H r p.a.n (client p.a.c) e
  did = handed_in.did p.lab H r p.a.n (client p.a.c) p.x is_handed_in

  pub small : is_big (fields_in p.x) ≡ false
  small = handed_in.small p.lab H r p.a.n (client p.a.c) p.x is_handed_in

  -- its entries come behind the wire
  pub number : r.first ≡ length (wire H)
  number = handed_in.number p.lab H r p.a.n (client p.a.c) p.x is_handed_in

  -- what holds of the two
  pub is_pair : IsPair p
  is_pair = record {
    rules = start.rules;
    chained = start.chained;
    sender = sender_end;
    receiver = receiver_end;
    sender_there = start.first.clients.sender;
    receiver_there = start.first.clients.receiver;
    apart = start.first.clients.apart;
    sender_kind = start.first.clients.sender_settled.kinds;
    receiver_kind = start.first.clients.receiver_settled.kinds;
    sender_cone = start.first.clients.sender_settled.cone;
    receiver_cone = start.first.clients.receiver_settled.cone;
    packet = start.first.handed.packet;
    small = small;
    bytes = handed_in.bytes p.lab H r p.a.n (client p.a.c) p.x is_handed_in;
    sender_meets = meets p.lab start.rules p.a p.b sender_end receiver_end start.first.clients.apart;
    receiver_meets = meets p.lab start.rules p.b p.a receiver_end sender_end (λ same. start.first.clients.apart (sym same));
  }
