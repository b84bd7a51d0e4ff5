-- Where no NAT is behind another one: the way of a client is its NAT, and to be settled is to be settled along it.
use Rattle.theory_first_packets.proofs.schedule.PairStart.{each_next}
use Rattle.theory_first_packets.proofs.Strangers.{each_course, each_first}
use Rattle.theory_first_packets.proofs.Words.{AreStrangers, AreStrangersAlong, ClientNode, Draws, EachFirstPacketArrives, EachNextPacketArrives, EachTakesACourse, Full, Grown, Ip6, IsTopology, Lab, List, MayMeet, MayMeetAlong, TopologyState, earlier, flat_is_chained, flat_lab, refl, settled_is_along, ℕ, ◌∷◌}

module _ (d : Draws) (t : TopologyState) (is : IsTopology t) where
  abbrev lab : Lab
  lab = flat_lab d t

  strangers : (H : List Full) {n m : ℕ} {a b : ClientNode} {own other : Ip6} → Grown lab H → AreStrangers lab H n m a b own other
      → AreStrangersAlong lab H n m a b own other
  strangers H {n} {m} {a} {b} {own} {other} g are = record {
    sender = are.sender;
    receiver = are.receiver;
    apart = are.apart;
    sender_settled = settled_is_along lab H n a own refl is g are.sender are.sender_settled;
    receiver_settled = settled_is_along lab H m b other refl is g are.receiver are.receiver_settled;
    sender_new = are.sender_new;
    receiver_new = are.receiver_new;
  }

  may_meet : (H : List Full) {n m : ℕ} {a b : ClientNode} {own other : Ip6} → Grown lab H → MayMeet lab H n m a b own other
      → MayMeetAlong lab H n m a b own other
  may_meet H {n} {m} {a} {b} {own} {other} g may = record {
    sender = may.sender;
    receiver = may.receiver;
    apart = may.apart;
    sender_settled = settled_is_along lab H n a own refl is g may.sender may.sender_settled;
    receiver_settled = settled_is_along lab H m b other refl is g may.receiver may.receiver_settled;
    stale = may.stale;
    receiver_ready = may.receiver_ready;
    sender_ready = may.sender_ready;
    sender_unbarred = may.sender_unbarred;
    receiver_unbarred = may.receiver_unbarred;
  }

-- so what holds along ways holds there
pub next_arrives : EachNextPacketArrives
next_arrives d t H r later is g n m a b own other x next fresh =
    let lab = flat_lab d t in
    each_next lab H r later is (flat_is_chained lab refl) g n m a b own other x
    (record { clients = may_meet d t is H (earlier lab later (r ∷ H) g).1 next.clients; handed = next.handed }) fresh

pub first_arrives : EachFirstPacketArrives
first_arrives d t H r later is g n m a b own other x first fresh =
    let lab = flat_lab d t in
    each_first lab H r later is (flat_is_chained lab refl) g n m a b own other x
    (record { clients = strangers d t is H (earlier lab later (r ∷ H) g).1 first.clients; handed = first.handed }) fresh

pub takes_course : EachTakesACourse
takes_course d t H r later is g n m a b own other x first fresh complete =
    let lab = flat_lab d t in
    each_course lab H r later is (flat_is_chained lab refl) g n m a b own other x
    (record { clients = strangers d t is H (earlier lab later (r ∷ H) g).1 first.clients; handed = first.handed }) fresh complete
