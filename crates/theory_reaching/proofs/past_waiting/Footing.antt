-- A sender and a receiver whose datagrams come in to each other: what holds before each delivery of a schedule.
use Rattle.theory_reaching.proofs.Words.{AllByRecursion, Bool, ComesIn, Did, DoesSend, Entry, Ep, Follows, Full, Grown, HasNoFault, IsCalmNext, IsElsewhere, IsLetIn, IsPair, Item, Journal, Keeps, Knows, Lab, List, Node, Option, Pair, Send, Some, [], all_leaves, ap, as_client, asks_at, at_same_moment, client, client_address, embedded, enters_along, false≢true, filter_map, is_client_node, is_here, is_let_in, item_in, items_of, journal, map, nats_of, node_at, now, option_and_then, outermost, qualification, refl, releases, sent, server, setup, still_in, sym, udp, unwrap_or, with_entry, ℕ, ◌∙◌, ◌∷◌, ◌≡◌}
use Rattle.theory_first_packets.proofs.passing.Sides.{Side}

-- both have their addresses, their servers' datagrams come in, and those of each other; each keeps these packets for the other one,
-- which it trusts where it is or doesn't
pub record Footing (p : Pair) (H : List Full) (kept : List (List ℕ)) (forth : Bool) (waiting : List (List ℕ)) (back : Bool) : Type 0 where
  pub grown : Grown p.lab H
  pub sender : client_address p.lab H p.a.n p.a.c ≡ Some p.a.own
  pub receiver : client_address p.lab H p.b.n p.b.c ≡ Some p.b.own
  pub sender_way : ComesIn p.lab H (asks_at p.lab p.a.c) p.a
  pub receiver_way : ComesIn p.lab H (asks_at p.lab p.b.c) p.b
  pub inward : ComesIn p.lab H (embedded p.b.own) p.a
  pub outward : ComesIn p.lab H (embedded p.a.own) p.b
  pub receiver_keeps : Keeps (journal p.b.n H) (now H) p.a.own kept forth
  pub sender_keeps : Keeps (journal p.a.n H) (now H) p.b.own waiting back

-- the record q after such a history
pub record OnFooting : Type 0 where
  pub p : Pair
  pub is : IsPair p
  pub H : List Full
  pub q : Full
  pub kept : List (List ℕ)
  pub forth : Bool
  pub waiting : List (List ℕ)
  pub back : Bool
  pub ground : Footing p H kept forth waiting back
  pub follows : Follows p.lab H q
  pub sound : HasNoFault q

-- RELEASES

-- the packets on their way
abbrev pub on_way : Ep → Ep → List (List ℕ) → List Item
on_way src dst xs = map (λ (x : List ℕ). udp src dst x) xs

-- what leaves of them
pub items_released : (src dst : Ep) (xs : List (List ℕ))
    → filter_map item_in (map (λ (z : Send). sent (udp src z.to z.bytes)) (releases dst xs)) ≡ on_way src dst xs
items_released src dst [] = refl
items_released src dst (x ∷ xs) = ap (λ (ys : List Item). udp src dst x ∷ ys) (items_released src dst xs)

-- each goes there
all_there : (P : Ep → Type 0) (dst : Ep) (xs : List (List ℕ)) → P dst → AllByRecursion (λ (z : Send). P z.to) (releases dst xs)
all_there P dst [] holds = tt
all_there P dst (x ∷ xs) holds = (holds, all_there P dst xs holds)

module _ (the : OnFooting) where
  open the use {p, is, H, q, kept, forth, waiting, back, ground, follows, sound}

  abbrev lab : Lab
  lab = p.lab

  abbrev a : Side
  a = p.a

  abbrev b : Side
  b = p.b

  -- THE NODES

  pub two_nodes : a.n ≡ b.n → ⊥
  two_nodes same =
      let one : client a.c ≡ client b.c = ap (λ (o : Option Node). unwrap_or o (client a.c))
      (sym is.sender.there ∙ ap (node_at p.lab.topology) same ∙ is.receiver.there) in
      is.apart (ap nat_of one) where
        nat_of : Node → ℕ
        nat_of (client c) = outermost p.lab c
        nat_of _ = 0

  pub no_server_node : (s : Side) → node_at p.lab.topology s.n ≡ Some (client s.c) → b.c.server ≡ s.n → ⊥
  no_server_node s there same =
      let one : server is.receiver.server_row ≡ client s.c = ap (λ (o : Option Node). unwrap_or o (server is.receiver.server_row))
      (sym is.receiver.server_is ∙ ap (node_at p.lab.topology) same ∙ there) in
      false≢true (ap is_client_node one)

  -- WHAT IS KNOWN

  pub receiver_knows : Knows (setup lab b) (journal b.n H) (now H) b.own a.own forth
  receiver_knows = record {
    here = is_here lab H b.n b.c b.own (record { grown = ground.grown; there = is.receiver.there; address = ground.receiver });
    room = ground.receiver_keeps.room;
    trust = ground.receiver_keeps.trust;
  }

  pub sender_knows : Knows (setup lab a) (journal a.n H) (now H) a.own b.own back
  sender_knows = record {
    here = is_here lab H a.n a.c a.own (record { grown = ground.grown; there = is.sender.there; address = ground.sender });
    room = ground.sender_keeps.room;
    trust = ground.sender_keeps.trust;
  }

  -- WAYS IN

  let_in : (s : Side) (src : Ep) → node_at lab.topology s.n ≡ Some (client s.c) → ComesIn lab H src s → IsLetIn lab H (now H) src (embedded s.own) s.c
  let_in s src there way = is_let_in lab H (now H) src (embedded s.own) s.n s.c is.rules is.chained (ap (option_and_then as_client) there)
      (enters_along lab H ground.grown src (nats_of lab s.c) s.c.inside (embedded s.own) way)

  pub to_sender : (src : Ep) → ComesIn lab H src a → IsLetIn lab H (now H) src (embedded a.own) a.c
  to_sender src way = let_in a src is.sender.there way

  pub to_receiver : (src : Ep) → ComesIn lab H src b → IsLetIn lab H (now H) src (embedded b.own) b.c
  to_receiver src way = let_in b src is.receiver.there way

  -- WHAT LEAVES

  receiver_sends : (e : Entry) → Did lab H q b.n (client b.c) e → DoesSend lab H q b e
  receiver_sends e did = record { end = is.receiver; kinds = is.receiver_kind; grown = ground.grown; way = ground.receiver_way; did = did; sound = sound }

  sender_sends : (e : Entry) → Did lab H q a.n (client a.c) e → DoesSend lab H q a e
  sender_sends e did = record { end = is.sender; kinds = is.sender_kind; grown = ground.grown; way = ground.sender_way; did = did; sound = sound }

  -- all that is released leaves
  pub receiver_releases : (dst : Ep) → IsElsewhere lab dst.ip (nats_of lab b.c) → (e : Entry) → Did lab H q b.n (client b.c) e → (xs : List (List ℕ))
      → e.step.sends ≡ releases dst xs → items_of q ≡ on_way (embedded b.own) dst xs
  receiver_releases dst far e did xs sends =
      let gone = all_leaves (receiver_sends e did) (releases dst xs) sends
      (all_there (λ (to : Ep). IsElsewhere lab to.ip (nats_of lab b.c)) dst xs far) in
      ap (filter_map item_in) gone.made ∙ items_released (embedded b.own) dst xs

  pub sender_releases : (dst : Ep) → IsElsewhere lab dst.ip (nats_of lab a.c) → (e : Entry) → Did lab H q a.n (client a.c) e → (xs : List (List ℕ))
      → e.step.sends ≡ releases dst xs → items_of q ≡ on_way (embedded a.own) dst xs
  sender_releases dst far e did xs sends =
      let gone = all_leaves (sender_sends e did) (releases dst xs) sends
      (all_there (λ (to : Ep). IsElsewhere lab to.ip (nats_of lab a.c)) dst xs far) in
      ap (filter_map item_in) gone.made ∙ items_released (embedded a.own) dst xs

  -- THE FOOTING AFTER IT

  -- where the record leaves NATs, both keep their addresses, and keep these packets then
  pub footing_on : IsCalmNext lab H q → (kept_then : List (List ℕ)) (forth_then : Bool) (waiting_then : List (List ℕ)) (back_then : Bool)
      → client_address lab (q ∷ H) a.n a.c ≡ client_address lab H a.n a.c → client_address lab (q ∷ H) b.n b.c ≡ client_address lab H b.n b.c
      → Keeps (journal b.n (q ∷ H)) (now (q ∷ H)) a.own kept_then forth_then → Keeps (journal a.n (q ∷ H)) (now (q ∷ H)) b.own waiting_then back_then
      → Footing p (q ∷ H) kept_then forth_then waiting_then back_then
  footing_on next kept_then forth_then waiting_then back_then here there receiver sender = record {
    grown = (follows, ground.grown);
    sender = here ∙ ground.sender;
    receiver = there ∙ ground.receiver;
    sender_way = way a (asks_at lab a.c) ground.sender_way;
    receiver_way = way b (asks_at lab b.c) ground.receiver_way;
    inward = way a (embedded b.own) ground.inward;
    outward = way b (embedded a.own) ground.outward;
    receiver_keeps = receiver;
    sender_keeps = sender;
  } where
    way : (s : Side) (src : Ep) → ComesIn lab H src s → ComesIn lab (q ∷ H) src s
    way s src w = still_in H next src (nats_of lab s.c) s.c.inside (embedded s.own) w

  -- of a client whose journal stays, or that did this
  pub same_address : (s : Side) → journal s.n (q ∷ H) ≡ journal s.n H → client_address lab (q ∷ H) s.n s.c ≡ client_address lab H s.n s.c
  same_address s same = ap (λ (j : Journal). (qualification (setup lab s) j).address) same

  pub same_after : (s : Side) (e : Entry) → journal s.n (q ∷ H) ≡ with_entry (journal s.n H) e
      → (qualification (setup lab s) (with_entry (journal s.n H) e)).address ≡ (qualification (setup lab s) (journal s.n H)).address
      → client_address lab (q ∷ H) s.n s.c ≡ client_address lab H s.n s.c
  same_after s e later stays = ap (λ (j : Journal). (qualification (setup lab s) j).address) later ∙ stays

  pub receiver_stays : q.moment ≡ now H → journal b.n (q ∷ H) ≡ journal b.n H → Keeps (journal b.n (q ∷ H)) (now (q ∷ H)) a.own kept forth
  receiver_stays moment same = at_same_moment (λ z m. Keeps z m a.own kept forth) H q b.n (journal b.n H) moment same ground.receiver_keeps

  pub sender_stays : q.moment ≡ now H → journal a.n (q ∷ H) ≡ journal a.n H → Keeps (journal a.n (q ∷ H)) (now (q ∷ H)) b.own waiting back
  sender_stays moment same = at_same_moment (λ z m. Keeps z m b.own waiting back) H q a.n (journal a.n H) moment same ground.sender_keeps
