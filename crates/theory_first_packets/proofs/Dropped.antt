-- A first packet is dropped where its sender has no room for the receiver.
use Rattle.theory_first_packets.proofs.Words.{ClientNode, Draws, Entry, Full, FullSenderDrops, GetsThrough, Grown, Ip6, IsSettled, IsTopology, IsTurnedAway, Lab, List, Send, Some, TopologyState, [], ap, armed, by_way, client, client_at, earlier, entry_of, false, fields_in, flat_is_chained, flat_lab, given, has_cone, has_room, is_fresh, journal, known, length, mentions, no_ep, not_listed, now, refl, settled_is_along, subst, sym, unlisted, way_out, wire, words, ℕ, ◌∙◌, ◌∷◌, ◌≡◌}
use Rattle.teredo_node.specs.declared.fate.Fate.TheVariants as fate
use Rattle.theory_first_packets.proofs.passing.Ends.{IsEnd, Settles, is_end}
use Rattle.theory_first_packets.proofs.Deliveries.{Did}
use Rattle.theory_first_packets.proofs.tables.HostPacket.{IsTurned, turned_away}
use Rattle.theory_first_packets.proofs.tables.Meeting.{Meets}
use Rattle.theory_first_packets.proofs.passing.OwnAddress.{IsHere, is_here}
use Rattle.theory_first_packets.proofs.passing.Sides.{Side, setup}
use Rattle.theory_first_packets.proofs.schedule.Pair.{meets}
use Rattle.theory_first_packets.proofs.schedule.Alone.{alone, as_long, first_is}
use Rattle.theory_first_packets.proofs.HandedIn as handed_in
use Rattle.theory_first_packets.proofs.HandedIn.{IsHandedIn}
use Rattle.theory_first_packets.proofs.passing.Arrivals.{beyond}

-- after a record that makes nothing the packet doesn't get through
kept_back : (lab : Lab) (H : List Full) (r : Full) → Grown lab (r ∷ H) → r.made ≡ [] → (m : ℕ) (own other : Ip6) (x : List ℕ)
    → GetsThrough H r m own other x [] → ⊥
kept_back lab H r grown nothing m own other x carried = carried.arrives (λ k low high. absurd
    (beyond k r.first (length (wire H)) (length (wire (r ∷ H))) low (first_is lab H r grown) (as_long lab H r nothing) high))

-- THE RECORD

-- a sender without room for the receiver, where no NAT is behind another one
pub record TurnedAway : Type 0 where
  pub d : Draws
  pub t : TopologyState
  pub H : List Full
  pub r : Full
  pub n : ℕ
  pub m : ℕ
  pub a : ClientNode
  pub b : ClientNode
  pub own : Ip6
  pub other : Ip6
  pub x : List ℕ
  pub is : IsTopology t
  pub g : Grown (flat_lab d t) (r ∷ H)
  pub turned : IsTurnedAway (flat_lab d t) H r n m a b own other x

module _ (the : TurnedAway) where
  open the use {d, t, H, r, n, m, a, b, own, other, x, is, g, turned}

  abbrev lab : Lab
  lab = flat_lab d t

  abbrev a_side : Side
  a_side = record { n = n; c = a; own = own }

  abbrev b_side : Side
  b_side = record { n = m; c = b; own = other }

  -- who is settled is so along its way
  settles : (k : ℕ) (c : ClientNode) (ip : Ip6) → client_at t k ≡ Some c → IsSettled lab H k c ip → Settles lab H k c ip
  settles k c ip at settled = record {
    rules = is;
    chained = flat_is_chained lab refl;
    grown = g.1;
    client = at;
    settled = settled_is_along lab H k c ip refl is g.1 at settled;
  }

  sender_end : IsEnd lab n a own
  sender_end = is_end lab H n a own (settles n a own turned.sender turned.sender_settled)

  receiver_end : IsEnd lab m b other
  receiver_end = is_end lab H m b other (settles m b other turned.receiver turned.receiver_settled)

  abbrev e : Entry
  e = entry_of lab H (now H) n no_ep (given x) (client a)

  is_handed_in : IsHandedIn lab H r n (client a) x
  is_handed_in = record { rules = is; grown = g; there = sender_end.there; own = own; other = other; handed = turned.handed }

  pub did : Did lab H r n (client a) e
  did = handed_in.did lab H r n (client a) x is_handed_in

  its_meets : Meets (setup lab a_side) (fields_in x).src (fields_in x).dst
  its_meets = subst (λ (z : Ip6). Meets (setup lab a_side) (fields_in x).src z) (sym turned.handed.packet.destination)
      (subst (λ (z : Ip6). Meets (setup lab a_side) z other) (sym turned.handed.packet.source)
      (meets lab is a_side b_side sender_end receiver_end turned.apart))

  its_here : IsHere (setup lab a_side) (journal n H) (fields_in x).src
  its_here = subst (IsHere (setup lab a_side) (journal n H)) (sym turned.handed.packet.source)
      (is_here lab H n a own (record { grown = g.1; there = sender_end.there; address = turned.sender_settled.address }))

  full : has_room (mentions (journal n H).entries) (now H) (fields_in x).dst ≡ false
  full = ap (has_room (mentions (journal n H).entries) (now H)) turned.handed.packet.destination ∙ turned.full

  -- so the receiver isn't fresh
  stale : is_fresh (now H) (known (mentions (journal n H).entries) (now H) (fields_in x).dst) ≡ false
  unfolding is_fresh
  stale = ap (is_fresh (now H)) (unlisted (mentions (journal n H).entries) (now H) (fields_in x).dst
      (not_listed (mentions (journal n H).entries) (now H) (fields_in x).dst full))

  is_turned : IsTurned (record {
    s = setup lab a_side;
    j = journal n H;
    n = now H;
    x = x;
    is_one = turned.handed.packet.packet;
    meets = its_meets;
    here = its_here;
    small = handed_in.small lab H r n (client a) x is_handed_in;
    plain = turned.handed.packet.no_bubble;
  }) stale e
  is_turned = turned_away (record {
    s = setup lab a_side;
    j = journal n H;
    n = now H;
    x = x;
    is_one = turned.handed.packet.packet;
    meets = its_meets;
    here = its_here;
    small = handed_in.small lab H r n (client a) x is_handed_in;
    plain = turned.handed.packet.no_bubble;
  }) stale
      (ap has_cone turned.handed.packet.destination ∙ turned.plain) full (words lab n H)

  pub nothing : r.made ≡ []
  nothing = did.made ∙ ap (λ (z : List Send). (by_way lab H (now H) (way_out lab.chain a.nat) a.inside (armed H) 0 [] z).made) is_turned.sends

  pub dropped : r.fate ≡ fate.PeersFull
  dropped = did.fate ∙ is_turned.full

pub full_sender_drops : FullSenderDrops
full_sender_drops d t H r later is g n m a b own other x turned fresh =
    let lab = flat_lab d t in
    let there = earlier lab later (r ∷ H) g in
    let the : TurnedAway = record { d = d; t = t; H = H; r = r; n = n; m = m; a = a; b = b; own = own; other = other; x = x; is = is; g = there; turned = turned } in
    let nothing = nothing the in
    let same = alone lab H r there nothing later g fresh in
    record {
      dropped = dropped the;
      nothing = nothing;
      alone = same;
      kept_back = subst (λ (z : List Full). GetsThrough H r m own other x z → ⊥) (sym same) (kept_back lab H r there nothing m own other x);
    }
