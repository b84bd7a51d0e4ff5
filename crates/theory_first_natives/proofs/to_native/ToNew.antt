-- The first packet from a client to a native host that is new to it comes as any other does.
use Rattle.theory_first_natives.proofs.to_native.ToStart.{each_next}
use Rattle.theory_first_natives.proofs.Words.{AreNewToEachOther, Bool, ClientNode, FirstToNativeArrivesAlong, Full, GetsToNative, Ip6, Lab, List, MayMeetThroughRelay, MayReachNative, NativeNode, OfEachSchedule, Peer, RelayNode, ap, cond, false, has_cone, is_barred, is_fresh, most_deliveries, most_to_native, no_peer, not, now, refl, subst, true, ℕ, ◌&&◌, ◌∙◌, ◌≡◌}
use Rattle.theory_first_natives.proofs.tables.ClientHere.{not_fresh, nobody_barred}
use Rattle.theory_first_natives.proofs.NewToEachOther.{unknown_host, unknown_client, untrusted, may_meet}

module _ {lab : Lab} {H : List Full} {n m k : ℕ} {a : ClientNode} {h : NativeNode} {r : RelayNode} {own : Ip6}
    (new : AreNewToEachOther lab H n m k a h r own) where
  may_reach : MayReachNative lab H n m k a h r own
  may_reach =
      let meet : MayMeetThroughRelay lab H n m k a h r own = may_meet lab H n m k a h r own new in
      let host = unknown_host lab H n m k a h r own new in
      record {
        client = meet.client;
        host = meet.host;
        through = meet.through;
        relay = meet.relay;
        settled = meet.settled;
        let_in = meet.let_in;
        host_room = meet.host_room;
        client_room = meet.client_room;
        stale = ap (is_fresh (now H)) host ∙ not_fresh (now H) no_peer refl;
        unbarred = ap (is_barred (now H)) host ∙ nobody_barred (now H);
        nothing_waits = ap (λ (p : Peer). p.waiting) host;
        relay_idle = ap (λ (p : Peer). p.waiting) (unknown_client lab H n m k a h r own new);
        may_ask = meet.may_ask;
      }

  -- without the cone bit the relay must ask
  most_is : most_deliveries (not false && not (has_cone own)) ≡ most_to_native own
  most_is = by (has_cone own) where
    by : (c : Bool) → most_deliveries (not false && not c) ≡ cond c 6 9
    by true = refl
    by false = refl

pub each_first : OfEachSchedule FirstToNativeArrivesAlong
each_first lab H q later rules chained g n m k a h r own x first fresh =
    subst (GetsToNative H q n m x later) (most_is first.nodes)
    (subst (λ (b : Bool). GetsToNative H q n m x later (most_deliveries (not b && not (has_cone own))))
    (untrusted lab H n m k a h r own first.nodes)
    (each_next lab H q later rules chained g n m k a h r own x
    (record { nodes = may_reach first.nodes; handed = first.handed }) fresh))
