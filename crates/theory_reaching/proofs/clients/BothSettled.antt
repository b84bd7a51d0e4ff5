-- Two clients that are settled along their ways, which end at different NATs, and the record in which the host of the one hands in
-- a packet for the other.
use Rattle.theory_reaching.proofs.Words.{AllByRecursion, AllSent, ClientNode, Did, Entry, Full, Grown, Handing, HasNoFault, HostHandsIn, Ip6, IsBytes, IsCalmNext, IsChained, IsElsewhere, IsEnd, IsHandedIn, IsHere, IsSettledAlong, IsTopology, Lab, List, Node, Option, Send, Settles, Some, WayIn, address_at, all_leaves, ap, arith, as_client, asks_at, client, embedded, entry_of, false, false≢true, fields_in, is_big, is_end, is_here, is_settled, journal, length, nat_tests, nats_of, no_ep, node_at, now, option_and_then, other_journal, outermost, setup, still_in, sym, true, unwrap_or, way_of_server, wire, ℕ, ◌==◌, ◌∙◌, ◌∷◌, ◌≡◌}
use Rattle.teredo_node.specs.Journal.{given}
use Rattle.theory_first_packets.proofs.passing.Sides.{Side}
use Rattle.theory_first_packets.proofs.HandedIn as handed_in
use Rattle.theory_reaching.proofs.clients.SettledClients.{settled_along}

-- node n is the client c, and node m the client d. In the record q after H the host of n hands in x for m
pub record AreBoth (lab : Lab) (H : List Full) (q : Full) (n m : ℕ) (c d : ClientNode) (x : List ℕ) : Type 0 where
  pub rules : IsTopology lab.topology
  pub chained : IsChained lab
  pub grown : Grown lab (q ∷ H)
  pub at : node_at lab.topology n ≡ Some (client c)
  pub to : node_at lab.topology m ≡ Some (client d)
  pub sender : is_settled lab H n c ≡ true
  pub receiver : is_settled lab H m d ≡ true
  pub apart : (outermost lab c == outermost lab d) ≡ false
  pub handed : HostHandsIn q n (address_at lab H n) (address_at lab H m) x
  pub sound : HasNoFault q

-- so it is in this laboratory, of these two
pub record Both : Type 0 where
  pub lab : Lab
  pub H : List Full
  pub q : Full
  pub n : ℕ
  pub m : ℕ
  pub c : ClientNode
  pub d : ClientNode
  pub x : List ℕ
  pub are : AreBoth lab H q n m c d x

module _ (the : Both) where
  open the use {lab, H, q, n, m, c, d, x, are}

  abbrev pub own : Ip6
  own = address_at lab H n

  abbrev pub other : Ip6
  other = address_at lab H m

  abbrev pub a_side : Side
  a_side = record { n = n; c = c; own = own }

  abbrev pub b_side : Side
  b_side = record { n = m; c = d; own = other }

  pub differ : outermost lab c ≡ outermost lab d → ⊥
  differ same = false≢true (sym are.apart ∙ (let one : (outermost lab c == outermost lab d) ≡ true = grind (arith, nat_tests) in one))

  -- BOTH ARE SETTLED

  pub sender_along : IsSettledAlong lab H n c own
  sender_along = settled_along lab H n c are.at are.sender

  pub receiver_along : IsSettledAlong lab H m d other
  receiver_along = settled_along lab H m d are.to are.receiver

  pub sender_settles : Settles lab H n c own
  sender_settles = record {
    rules = are.rules;
    chained = are.chained;
    grown = are.grown.1;
    client = ap (option_and_then as_client) are.at;
    settled = sender_along;
  }

  receiver_settles : Settles lab H m d other
  receiver_settles = record {
    rules = are.rules;
    chained = are.chained;
    grown = are.grown.1;
    client = ap (option_and_then as_client) are.to;
    settled = receiver_along;
  }

  pub sender_end : IsEnd lab n c own
  sender_end = is_end lab H n c own sender_settles

  pub receiver_end : IsEnd lab m d other
  receiver_end = is_end lab H m d other receiver_settles

  pub sender_here : IsHere (setup lab a_side) (journal n H) own
  sender_here = is_here lab H n c own (record { grown = are.grown.1; there = are.at; address = sender_along.address })

  pub receiver_here : IsHere (setup lab b_side) (journal m H) other
  receiver_here = is_here lab H m d other (record { grown = are.grown.1; there = are.to; address = receiver_along.address })

  -- THE RECORD

  is_handed_in : IsHandedIn lab H q n (client c) x
  is_handed_in = record { rules = are.rules; grown = are.grown; there = are.at; own = own; other = other; handed = are.handed }

  hand : Handing lab H q n (client c) x
  hand = handed_in.hand lab H q n (client c) x is_handed_in

  -- what the sender did
  abbrev pub e : Entry
  e = entry_of lab H (now H) n no_ep (given x) (client c)

  pub did : Did lab H q n (client c) e
  did = handed_in.did lab H q n (client c) x is_handed_in

  pub small : is_big (fields_in x) ≡ false
  small = handed_in.small lab H q n (client c) x is_handed_in

  pub bytes : IsBytes x
  bytes = handed_in.bytes lab H q n (client c) x is_handed_in

  pub number : q.first ≡ length (wire H)
  number = handed_in.number lab H q n (client c) x is_handed_in

  -- it leaves NATs
  pub next : IsCalmNext lab H q
  next = record { follows = are.grown.0; calm = hand.calm; moment = did.moment }

  -- they are two nodes
  abbrev outermost_of : Node → ℕ
  outermost_of (client b) = outermost lab b
  outermost_of _ = 0

  pub two_nodes : n ≡ m → ⊥
  two_nodes same = differ (ap outermost_of (ap (λ (o : Option Node). unwrap_or o (client c)) (sym are.at ∙ ap (node_at lab.topology) same ∙ are.to)))

  -- so the receiver did nothing
  pub receiver_stays : journal m (q ∷ H) ≡ journal m H
  receiver_stays = other_journal lab H q n m did.node two_nodes

  -- what its server sends comes in to it, before and after
  pub server_way : WayIn lab H (asks_at lab d) (nats_of lab d) d.inside (embedded other)
  server_way = way_of_server lab H m d other receiver_settles

  pub server_way_then : WayIn lab (q ∷ H) (asks_at lab d) (nats_of lab d) d.inside (embedded other)
  server_way_then = still_in H next (asks_at lab d) (nats_of lab d) d.inside (embedded other) server_way

  -- the sender's sends leave from its own endpoint
  pub leave : (xs : List Send) → e.step.sends ≡ xs → AllByRecursion (λ (s : Send). IsElsewhere lab s.to.ip (nats_of lab c)) xs → AllSent lab H q c own xs
  leave = all_leaves {lab = lab} {H = H} {q = q} {a = a_side} {e = e} (record {
    end = sender_end;
    kinds = sender_along.kinds;
    grown = are.grown.1;
    way = way_of_server lab H n c own sender_settles;
    did = did;
    sound = are.sound;
  })
