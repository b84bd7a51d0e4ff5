-- A record that follows at once: what it leaves of the ground.
use Rattle.theory_first_packets.proofs.Words.{Bool, Entry, Ep, Follows, Full, HasNoFault, IsLetIn, Journal, Lab, List, Node, Option, Send, Some, [], ap, armed, by_way, client, client_address, client_at, embedded, false≢true, is_let_in, is_teredo, journal, nats_of, node_at, not, now, or_right, outermost, qualification, refl, same_ep, same_ep-self, server, sym, unwrap_or, with_entry, ℕ, ◌∙◌, ◌∷◌, ◌≡◌}
use Rattle.theory_first_packets.proofs.passing.Ways.{LeavesNats, IsCalmNext}
use Rattle.theory_first_packets.proofs.passing.WaysIn.{still_in, enters_along}
use Rattle.theory_first_packets.proofs.Deliveries.{Did}
use Rattle.theory_first_packets.proofs.tables.IndirectBubble.{MayAnswer}
use Rattle.theory_first_packets.proofs.tables.Meeting.{Knows}
use Rattle.theory_first_packets.proofs.passing.Sides.{Side, setup, ComesIn}
use Rattle.theory_first_packets.proofs.schedule.Pair.{Pair, IsPair}
use Rattle.theory_first_packets.proofs.schedule.Ground.{Keeps, Ground}
use Rattle.theory_first_packets.proofs.passing.OwnAddress.{is_here}
use Rattle.theory_first_packets.proofs.passing.AllSent.{DoesSend}
use Rattle.theory_first_packets.proofs.Journals.{at_same_moment}
use Rattle.theory_first_packets.proofs.schedule.PairStages.{Sends, MayTry, is_client_node}

-- a record q after H, of which the ground holds
pub record IsRecord (p : Pair) (H : List Full) (q : Full) : Type 0 where
  pub pair : IsPair p
  pub trusted : Bool
  pub ground : Ground p H trusted
  pub follows : Follows p.lab H q
  pub sound : HasNoFault q

-- a record of these two, after a history
pub record PairRecord : Type 0 where
  pub p : Pair
  pub H : List Full
  pub q : Full
  pub r : IsRecord p H q

module _ (the : PairRecord) where
  open the use {p, H, q, r}

  abbrev lab : Lab
  lab = p.lab

  abbrev a : Side
  a = p.a

  abbrev b : Side
  b = p.b

  abbrev is : IsPair p
  is = r.pair

  abbrev trusted : Bool
  trusted = r.trusted

  abbrev ground : Ground p H trusted
  ground = r.ground

  abbrev follows : Follows p.lab H q
  follows = r.follows

  -- the clients are two nodes
  pub two_nodes : a.n ≡ b.n → ⊥
  two_nodes same =
      let one : client a.c ≡ client b.c = ap (λ (o : Option Node). unwrap_or o (client a.c))
      (sym is.sender.there ∙ ap (node_at p.lab.topology) same ∙ is.receiver.there) in
      is.apart (ap nat_of one) where
        nat_of : Node → ℕ
        nat_of (client c) = outermost p.lab c
        nat_of _ = 0

  -- nor is the server a client
  pub no_server_node : (s : Side) → node_at p.lab.topology s.n ≡ Some (client s.c) → b.c.server ≡ s.n → ⊥
  no_server_node s there same =
      let one : server is.receiver.server_row ≡ client s.c = ap (λ (o : Option Node). unwrap_or o (server is.receiver.server_row))
      (sym is.receiver.server_is ∙ ap (node_at p.lab.topology) same ∙ there) in
      false≢true (ap is_client_node one)

  pub next_is : LeavesNats lab q → q.moment ≡ now H → IsCalmNext lab H q
  next_is calm moment = record { follows = follows; calm = calm; moment = moment }

  -- of node k, neither of whom is
  pub same_address : (s : Side) → journal s.n (q ∷ H) ≡ journal s.n H → client_address lab (q ∷ H) s.n s.c ≡ client_address lab H s.n s.c
  same_address s same = ap (λ (j : Journal). (qualification (setup p.lab s) j).address) same

  pub same_after : (s : Side) (e : Entry) → journal s.n (q ∷ H) ≡ with_entry (journal s.n H) e
      → (qualification (setup p.lab s) (with_entry (journal s.n H) e)).address ≡ (qualification (setup p.lab s) (journal s.n H)).address
      → client_address lab (q ∷ H) s.n s.c ≡ client_address lab H s.n s.c
  same_after s e later stays = ap (λ (j : Journal). (qualification (setup p.lab s) j).address) later ∙ stays

  pub keeps_waiting : (j : Journal) (t : Bool) → q.moment ≡ now H → journal b.n (q ∷ H) ≡ j → Keeps j (now H) a.own [] t
      → Keeps (journal b.n (q ∷ H)) (now (q ∷ H)) a.own [] t
  keeps_waiting j t moment later keeps = at_same_moment (λ z m. Keeps z m a.own [] t) H q b.n j moment later keeps

  pub still_sends : (back : Bool) → q.moment ≡ now H → journal a.n (q ∷ H) ≡ journal a.n H → Sends p H back → Sends p (q ∷ H) back
  still_sends back moment same sends = at_same_moment (λ z m. Keeps z m b.own (p.x ∷ []) back) H q a.n (journal a.n H) moment same sends

  -- ways in stay
  pub on_way : (s : Side) (src : Ep) → IsCalmNext lab H q → ComesIn lab H src s → ComesIn lab (q ∷ H) src s
  on_way s src next way = still_in H next src (nats_of lab s.c) s.c.inside (embedded s.own) way

  -- what comes in by one is let in
  let_in : (s : Side) (src : Ep) → client_at lab.topology s.n ≡ Some s.c → ComesIn lab H src s → IsLetIn lab H (now H) src (embedded s.own) s.c
  let_in s src there way = is_let_in lab H (now H) src (embedded s.own) s.n s.c is.rules is.chained there
      (enters_along lab H ground.grown src (nats_of lab s.c) s.c.inside (embedded s.own) way)

  pub to_sender : (src : Ep) → ComesIn lab H src a → IsLetIn lab H (now H) src (embedded a.own) a.c
  to_sender src way = let_in a src is.sender_there way

  pub to_receiver : (src : Ep) → ComesIn lab H src b → IsLetIn lab H (now H) src (embedded b.own) b.c
  to_receiver src way = let_in b src is.receiver_there way

  -- the receiver has its address and room
  pub receiver_knows : Knows (setup p.lab b) (journal b.n H) (now H) b.own a.own trusted
  receiver_knows = record {
    here = is_here lab H b.n b.c b.own (record { grown = ground.grown; there = is.receiver.there; address = ground.receiver });
    room = ground.keeps_nothing.room;
    trust = ground.keeps_nothing.trust;
  }

  -- it may answer the sender
  pub may_answer : MayTry p H → MayAnswer (setup p.lab b) (journal b.n H) (now H) b.own a.own (embedded a.own)
  may_answer may = record {
    here = receiver_knows.here;
    strict = refl;
    usable = is.sender.usable;
    origin = or_right (not (is_teredo a.own)) (same_ep (embedded a.own) (embedded a.own)) (same_ep-self (embedded a.own));
    other = is.receiver_meets.other;
    room = ground.keeps_nothing.room;
    unbarred = may;
  }

  -- the sender has its address and room too
  pub sender_knows : (back : Bool) → Sends p H back → Knows (setup p.lab a) (journal a.n H) (now H) a.own b.own back
  sender_knows back sends = record {
    here = is_here lab H a.n a.c a.own (record { grown = ground.grown; there = is.sender.there; address = ground.sender });
    room = sends.room;
    trust = sends.trust;
  }

  -- and either may send
  pub receiver_sends : (e : Entry) → Did lab H q b.n (client b.c) e → DoesSend lab H q b e
  receiver_sends e did = record {
    end = is.receiver;
    kinds = is.receiver_kind;
    grown = ground.grown;
    way = ground.receiver_way;
    did = did;
    sound = r.sound;
  }

  pub sender_sends : (e : Entry) → Did lab H q a.n (client a.c) e → DoesSend lab H q a e
  sender_sends e did = record {
    end = is.sender;
    kinds = is.sender_kind;
    grown = ground.grown;
    way = ground.sender_way;
    did = did;
    sound = r.sound;
  }

  -- who sends nothing makes no entry
  pub made_none : (s : Side) (e : Entry) → Did lab H q s.n (client s.c) e → e.step.sends ≡ [] → q.made ≡ []
  made_none s e did none = did.made ∙ ap (λ (xs : List Send). (by_way lab H (now H) (nats_of lab s.c) s.c.inside (armed H) 0 [] xs).made) none
