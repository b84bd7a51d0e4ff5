-- What holds before the first record and after it, and what the sender makes of it.
use Rattle.theory_first_packets.proofs.Words.{Bool, Entry, Full, Ip6, List, Peer, Some, [], ap, both_bubbles, client, embedded, false, fields_in, has_cone, has_room, is_barred, is_fresh, is_trusted_at, journal, known_by, mentions, now, qualification, refl, send, subst, sym, true, with_entry, words, ℕ, ◌∙◌, ◌∷◌, ◌≡◌}
use Rattle.theory_first_packets.proofs.passing.Ways.{IsCalmNext}
use Rattle.theory_first_packets.proofs.passing.Ends.{way_of_server}
use Rattle.theory_first_packets.proofs.schedule.Counted.{AreOpen}
use Rattle.theory_first_packets.proofs.Deliveries.{Did}
use Rattle.theory_first_packets.proofs.tables.HostPacket.{goes_at_once, waits_here}
use Rattle.theory_first_packets.proofs.tables.Meeting.{Meets}
use Rattle.theory_first_packets.proofs.passing.OwnAddress.{IsHere, is_here}
use Rattle.theory_first_packets.proofs.schedule.Pair.{Pair, IsPair}
use Rattle.theory_first_packets.proofs.passing.Sides.{setup}
use Rattle.theory_first_packets.proofs.schedule.Ground.{Keeps, Ground, ground_on}
use Rattle.theory_first_packets.proofs.Journals.{other_journal, at_same_moment}
use Rattle.theory_first_packets.proofs.schedule.PairAfter.{PairRecord, IsRecord, two_nodes, same_address, same_after}
use Rattle.teredo_node.specs.declared.fate.Fate.TheVariants as fate
use Rattle.theory_first_packets.proofs.Premise.{IsStart, sender_settles, receiver_settles, sender_end, hand, e, did, small, is_pair}

module _ (p : Pair) (H : List Full) (r : Full) (start : IsStart p H r) where
  -- the two clients, and what the sender did
  abbrev is : IsPair p
  is = is_pair p H r start

  abbrev done : Entry
  done = e p H r start

  does : Did p.lab H r p.a.n (client p.a.c) done
  does = did p H r start

  -- THE GROUND

  -- whether each trusts the other where it is
  abbrev pub back : Bool
  back = is_trusted_at (embedded p.b.own) (known_by H p.a.n p.b.own)

  abbrev pub forth : Bool
  forth = is_trusted_at (embedded p.a.own) (known_by H p.b.n p.a.own)

  -- the ground before
  pub ground : Ground p H forth
  ground = record {
    grown = start.grown.1;
    sender = start.first.clients.sender_settled.address;
    receiver = start.first.clients.receiver_settled.address;
    sender_way = way_of_server p.lab H p.a.n p.a.c p.a.own (sender_settles p H r start);
    receiver_way = way_of_server p.lab H p.b.n p.b.c p.b.own (receiver_settles p H r start);
    keeps_nothing = record { room = start.first.clients.receiver_ready.room; waits = start.first.clients.receiver_ready.nothing_waits; trust = refl };
  }

  -- the record leaves NATs
  pub next : IsCalmNext p.lab H r
  next = record { follows = start.grown.0; calm = (hand p H r start).calm; moment = does.moment }

  abbrev pub is_record : IsRecord p H r
  is_record = record { pair = is; trusted = forth; ground = ground; follows = start.grown.0; sound = start.sound }

  abbrev latest : PairRecord
  latest = record { p = p; H = H; q = r; r = is_record }

  -- the receiver does nothing
  pub receiver_stays : journal p.b.n (r ∷ H) ≡ journal p.b.n H
  receiver_stays = other_journal p.lab H r p.a.n p.b.n does.node (two_nodes latest)

  -- the ground after
  pub ground_then : (qualification (setup p.lab p.a) (with_entry (journal p.a.n H) done)).address ≡ (qualification (setup p.lab p.a) (journal p.a.n H)).address
      → Ground p (r ∷ H) forth
  ground_then stays =
      ground_on p H r next forth forth ground (same_after latest p.a done does.later stays, same_address latest p.b receiver_stays)
      (at_same_moment (λ j m. Keeps j m p.a.own [] forth) H r p.b.n (journal p.b.n H) next.moment receiver_stays ground.keeps_nothing)

  -- what is open is so from the first entry on
  pub open_from : {f last : ℕ} {direct : Bool} → r.first ≡ f → AreOpen f last direct true [] → AreOpen r.first last direct true []
  open_from {last} {direct} same are = subst (λ (k : ℕ). AreOpen k last direct true []) (sym same) are

  -- WHAT THE SENDER MAKES OF IT

  -- what the tables say is of the packet's own addresses
  to_sources : (P : Ip6 → Ip6 → Type 0) → P p.a.own p.b.own → P (fields_in p.x).src (fields_in p.x).dst
  to_sources P h = subst (λ (z : Ip6). P (fields_in p.x).src z) (sym start.first.handed.packet.destination)
      (subst (λ (z : Ip6). P z p.b.own) (sym start.first.handed.packet.source) h)

  its_meets : Meets (setup p.lab p.a) (fields_in p.x).src (fields_in p.x).dst
  its_meets = to_sources (Meets (setup p.lab p.a)) is.sender_meets

  its_here : IsHere (setup p.lab p.a) (journal p.a.n H) (fields_in p.x).src
  its_here = subst (IsHere (setup p.lab p.a) (journal p.a.n H)) (sym start.first.handed.packet.source)
      (is_here p.lab H p.a.n p.a.c p.a.own
      (record { grown = start.grown.1; there = (sender_end p H r start).there; address = ground.sender }))

  -- what the sender knows of the receiver
  known_is : known_by H p.a.n (fields_in p.x).dst ≡ known_by H p.a.n p.b.own
  known_is = ap (known_by H p.a.n) start.first.handed.packet.destination

  -- which isn't fresh
  stale : is_fresh (now H) (known_by H p.a.n (fields_in p.x).dst) ≡ false
  stale = ap (is_fresh (now H)) known_is ∙ start.first.clients.stale

  -- where the receiver is cone the packet goes at once
  pub record SendsItself : Type 0 where
    pub fate_is : done.step.fate ≡ fate.SentCone
    pub sends : done.step.sends ≡ send (embedded p.b.own) p.x ∷ []

  pub at_once : has_cone p.b.own ≡ true → SendsItself
  at_once cone =
      let goes = goes_at_once (record {
        s = setup p.lab p.a;
        j = journal p.a.n H;
        n = now H;
        x = p.x;
        is_one = start.first.handed.packet.packet;
        meets = its_meets;
        here = its_here;
        small = small p H r start;
        plain = start.first.handed.packet.no_bubble;
      }) stale (ap has_cone start.first.handed.packet.destination ∙ cone) (words p.lab p.a.n H) in
      record { fate_is = goes.sent_cone; sends = goes.sends ∙ ap (λ (z : Ip6). send (embedded z) p.x ∷ []) start.first.handed.packet.destination }

  -- where it isn't the packet waits, and bubbles go out
  pub record WaitsFirst : Type 0 where
    pub queued : done.step.fate ≡ fate.Queued
    pub sends : done.step.sends ≡ both_bubbles (has_cone p.a.own) p.a.own p.b.own
    pub packet : done.packet ≡ Some p.x
    pub about : done.peer ≡ Some p.b.own
    pub moment : done.moment ≡ now H

  pub waits : has_cone p.b.own ≡ false → WaitsFirst
  waits far =
      let dst = start.first.handed.packet.destination in
      let ready = start.first.clients.sender_ready far in
      let w = waits_here (record {
        s = setup p.lab p.a;
        j = journal p.a.n H;
        n = now H;
        x = p.x;
        is_one = start.first.handed.packet.packet;
        meets = its_meets;
        here = its_here;
        small = small p H r start;
        plain = start.first.handed.packet.no_bubble;
      }) stale (ap has_cone dst ∙ far) (ap (has_room (mentions (journal p.a.n H).entries) (now H)) dst ∙ ready.room)
      (ap (λ (k : Peer). k.waiting) known_is ∙ ready.nothing_waits, ap (is_barred (now H)) known_is ∙ start.first.clients.sender_unbarred far)
      (words p.lab p.a.n H) in
      record {
        queued = w.queued;
        sends = w.sends ∙ ap (λ (z : Ip6). both_bubbles (has_cone z) z (fields_in p.x).dst) start.first.handed.packet.source
            ∙ ap (λ (z : Ip6). both_bubbles (has_cone p.a.own) p.a.own z) start.first.handed.packet.destination;
        packet = w.packet;
        about = w.about ∙ ap (λ (z : Ip6). Some z) start.first.handed.packet.destination;
        moment = w.moment;
      }
