-- `full` from a native host by nothing but the packets that the client holds of it: the lines before, and what else the line asks, say that client, host
-- and relay may meet. So the packet comes with those, or never.
use Rattle.theory_reaching.proofs.Words.{ClientNode, ComesInTime, Contains, Grown, HostHandsIn, Ip6, IsShut, NativeNode, RelayNode, Relayed, Some, Starts, Trio, address_at, address_of, and_parts, ap, as_client, client, clients_of, false, has_room, held_from, holds_most, is_settled, is_trusted_at, known_by, most_deliveries, must_ask, native, not, now, option_and_then, or_parts, peers_of, refl, relay_at, relayed, sound_first, subst, true, ◌&&◌, ◌||◌, ◌∷◌, ◌≡◌}
use Rattle.theory_settled.proofs.Earlier.{earlier}
use Rattle.theory_reaching.proofs.NextPacket.{NextPacket, whole}
use Rattle.theory_reaching.proofs.Tests.{failed, held, second_fails, first_fails}
use Rattle.theory_reaching.proofs.clients.SettledClients.{settled_along}
use Rattle.theory_reaching.proofs.from_native.CrowdedBack.{IsAlone, holds_them}
use Rattle.theory_reaching.proofs.from_native.HeldComes as held_comes
use Rattle.theory_reaching.proofs.from_native.HeldComes.{HeldAlone}
use Rattle.theory_reaching.proofs.from_native.NativeMayMeetByWord as may_meet
use Rattle.theory_reaching.proofs.relays.Relays.{relay_is_there}

module _ (h : NativeNode) (d : ClientNode) (the : NextPacket (native h) (client d)) (r : RelayNode)
    (through : relay_at the.lab.topology h.relay ≡ Some r) (alone : IsAlone (relayed the.lab the.H the.m d h r)) where
  open the use {lab, H, is, chained, q, later, n, m, x, g, at, to, sent, fresh}

  abbrev a : Relayed
  a = relayed lab H m d h r

  abbrev own : Ip6
  own = address_at lab H m

  there : Grown lab (q ∷ H)
  there = earlier lab later (q ∷ H) g

  settled : is_settled lab H m d ≡ true
  unfolding relayed
  settled = alone.full.settled

  unbarred : ((not a.trusted && a.barred) ≡ false) × ((a.asks && a.bubble_barred) ≡ false)
  unbarred = or_parts (not a.trusted && a.barred) (a.asks && a.bubble_barred) alone.full.unbarred

  places : ((not a.trusted && false) ≡ false) × ((a.asks && not a.room_for_both) ≡ false)
  places = or_parts (not a.trusted && false) (a.asks && not a.room_for_both)
      (or_parts (not a.room) ((not a.trusted && false) || (a.asks && not a.room_for_both)) alone.otherwise).1

  rooms : (has_room (peers_of H m) (now H) h.six ≡ true) × (has_room (clients_of H h.relay) (now H) own ≡ true)
  unfolding relayed
  rooms = and_parts (has_room (peers_of H m) (now H) h.six) (has_room (clients_of H h.relay) (now H) own)
      (held a.room (or_parts (not a.room) ((not a.trusted && false) || (a.asks && not a.room_for_both)) alone.otherwise).0)

  abbrev p : Trio
  p = record {
    lab = lab;
    a = record { n = m; c = d; own = own };
    m = n;
    k = h.relay;
    h = h;
    r = r;
    of_host = known_by H m h.six;
    x = x;
  }

  starts : Starts p H q
  unfolding relayed
  starts = record {
    client = ap (option_and_then as_client) to;
    host = at;
    through = refl;
    relay = relay_is_there lab.topology h.relay r through;
    settled = settled_along lab H m d to settled;
    let_in = may_meet.opened (record { lab = lab; H = H; n = m; m = n; c = d; h = h; r = r; at = to; to = at; through = through }) alone.full.let_in;
    host_room = rooms.0;
    client_room = rooms.1;
    may_test = λ untrusted. record {
      stale = first_fails a.fresh a.trusted alone.full.stale untrusted;
      unbarred = second_fails (not a.trusted) a.barred unbarred.0 (ap not untrusted);
    };
    may_ask = λ must. may_meet.asks (record { lab = lab; H = H; n = m; m = n; c = d; h = h; r = r; at = to; to = at; through = through }) (whole the) unbarred.1 places.1 must;
    handed = subst (λ (z : Ip6). HostHandsIn q n z own x) (ap (address_of lab H n) at) sent.handed;
    no_reply = sent.no_reply;
  }

  most : (is_trusted_at r.at (known_by H m h.six) ≡ false) × (holds_most (known_by H m h.six) ≡ true)
  unfolding relayed
  most = let both = and_parts (not a.trusted) a.holds_most (holds_them a alone) in (failed a.trusted both.0, both.1)

  abbrev the_held : HeldAlone
  the_held = record {
    p = p;
    H = H;
    q = q;
    later = later;
    starts = record { rules = is; chained = chained; grown = there; packet = starts; same = refl; sound = sound_first q later fresh };
    g = g;
    fresh = fresh;
    untrusted = most.0;
    full = most.1;
  }

  -- it comes where it is among those, byte for byte
  pub comes : Contains (held_from r.at (known_by H m h.six).held) x → ComesInTime H q m (client d) x later (most_deliveries (must_ask H h.relay own))
  comes among = let c = held_comes.comes the_held among in record { whole = c.whole; enough = λ _ many. c.enough many }

  -- and else never
  pub never_comes : (Contains (held_from r.at (known_by H m h.six).held) x → ⊥) → IsShut m (client d) x later
  never_comes = held_comes.never_comes the_held
