-- The steps of a first packet to a native host, from the test to its reply at the relay, and to the relay's bubble at the server: what
-- each delivery leaves.
use Rattle.theory_first_natives.proofs.Words.{Arrival, At, Bool, Delivery, Ip6, Journal, LeavesNats, List, None, Some, [], ap, asks_at, at_same_moment, bubble_bytes, cone_along, embedded, journal, length, nats_of, now, one_more, other_journal, refl, relay, relay_settings, sent, server_ep, server_in, six, suc, sym, udp, wire, ℕ, ◌∙◌, ◌∷◌, ◌≡◌}
use Rattle.theory_first_natives.proofs.from_native.Trio.{Trio, IsTrio}
use Rattle.theory_first_natives.proofs.from_native.TrioStages.{OnSix, test_of, RelayAsksAt, RelayKeepsAt, RelayKeeps, TrustsClientAt, TrustsClient, RelayHasRoomAt}
use Rattle.theory_first_natives.proofs.from_native.TrioStages.{IsOpen, to_trusted, to_cone, Ground}
use Rattle.theory_first_natives.proofs.tables.ToRelay.{RelayIdleAt, RelayIdle, idle_after_sent, idle_after_cone}
use Rattle.theory_first_natives.proofs.from_native.TrioAfter.{no_relay_client, no_native_client, no_native_relay, no_server_client, no_server_relay, next_is}
use Rattle.theory_first_natives.proofs.from_native.TrioAfter.{still_open, ground_on, same_address}
use Rattle.theory_first_natives.proofs.tables.RelayGives as gives
use Rattle.theory_first_natives.proofs.from_native.RelaySteps.{comes_by_six, goes_at_once, trusts_on, goes_to_cone, waits_there}
use Rattle.theory_first_natives.proofs.from_native.TrioSteps.{for_client}
use Rattle.theory_first_natives.proofs.tables.ServerTells.{told}
use Rattle.theory_first_natives.proofs.from_native.OnItsWay as on_its_way
use Rattle.theory_first_natives.proofs.from_native.OnItsWay.{six_of_own, six_of_host, test_at_server, test_at_native}
use Rattle.theory_first_natives.proofs.to_native.ToStages.{EnquiryRecord, in_trio, WaitsAt, Waits, MayListAt, MayList, Onward, asks_first, at_once, extra, all_steps}
use Rattle.theory_first_natives.proofs.to_native.ToStages.{crosses, echoes, bubbles, tells, replies}
use Rattle.theory_first_natives.proofs.to_native.ToStages.{ToNext, goes_on}
use Rattle.theory_first_natives.proofs.to_native.ToAnswer.{IsAsked}

module _ (the : EnquiryRecord) where
  open the use {p, asked, H, q, r}

  abbrev t : Trio
  t = p.trio

  abbrev is : IsTrio t
  is = r.trio

  abbrev own : Ip6
  own = t.a.own

  -- where node k did something, what holds of another one holds on
  pub stays : (P : Journal → ℕ → Type 0) (k n : ℕ) → q.node ≡ Some k → (k ≡ n → ⊥) → q.moment ≡ now H → P (journal n H) (now H)
      → P (journal n (q ∷ H)) (now (q ∷ H))
  stays P k n node apart moment holds = at_same_moment P H q n (journal n H) moment (other_journal t.lab H q k n node apart) holds

  -- so does the ground, where that node isn't the client
  pub ground_stays : (k : ℕ) → q.node ≡ Some k → (k ≡ t.a.n → ⊥) → LeavesNats t.lab q → q.moment ≡ now H → Ground t (q ∷ H)
  ground_stays k node apart calm moment = ground_on (in_trio the) (next_is (in_trio the) calm moment)
      (same_address (in_trio the) (other_journal t.lab H q k t.a.n node apart))

  -- what the relay will do stays, where neither it nor the client did anything
  onward_stays : {k : ℕ} → q.node ≡ Some k → (k ≡ t.a.n → ⊥) → (k ≡ t.k → ⊥) → LeavesNats t.lab q → q.moment ≡ now H → {b : Bool} → Onward p H b
      → Onward p (q ∷ H) b
  onward_stays {k} node client relays calm moment (asks_first plain asks may) =
      asks_first plain (stays (RelayAsksAt t) k t.k node relays moment asks) (stays (MayListAt p) k t.a.n node client moment may)
  onward_stays {k} node client relays calm moment (at_once (to_trusted trusts way) idle) =
      at_once (to_trusted (stays (TrustsClientAt t) k t.k node relays moment trusts) (still_open (in_trio the) (next_is (in_trio the) calm moment) way))
      (stays (RelayIdleAt t) k t.k node relays moment idle)
  onward_stays {k} node client relays calm moment (at_once (to_cone cone room) idle) =
      at_once (to_cone cone (stays (RelayHasRoomAt t) k t.k node relays moment room)) (stays (RelayIdleAt t) k t.k node relays moment idle)

  -- what the native answers
  pub asked_of : IsAsked own t.h.six p.packet
  asked_of = record { own_is = six_of_own (in_trio the); host_is = six_of_host (in_trio the); goes = asked.packet; bytes = asked.bytes; small = asked.small }

  -- the test, at the server
  pub at_server : (last : ℕ) → Delivery t.lab H q last → length (wire H) ≡ suc last → At H last (embedded own) (asks_at t.lab t.a.c) (test_of t p.nonce)
      → Waits p H → Onward p H p.asks → ToNext p H q last (all_steps p.asks)
  at_server last d long at waits onward =
      let came = test_at_server (in_trio the) p.nonce last d at in
      let more = one_more H q last (six None (test_of t p.nonce)) long came.made in
      let client = no_server_client (in_trio the) in
      goes_on (suc (suc (suc (suc (extra p.asks))))) (ground_stays t.a.c.server came.node client came.calm came.moment) more.longer
      (crosses more.at (stays (WaitsAt p) t.a.c.server t.a.n came.node client came.moment waits)
      (onward_stays came.node client (no_server_relay (in_trio the)) came.calm came.moment onward))

  -- at the native
  pub at_native : (last : ℕ) → Delivery t.lab H q last → length (wire H) ≡ suc last → OnSix H last None (test_of t p.nonce) → Waits p H
      → Onward p H p.asks → ToNext p H q last (suc (suc (suc (suc (suc (extra p.asks))))))
  at_native last d long at waits onward =
      let came = test_at_native (in_trio the) p.nonce last d at in
      let more = one_more H q last (six (Some t.k) t.x) long (came.made ∙ ap (λ (z : List ℕ). sent (six (Some t.k) z) ∷ []) (sym asked.reply)) in
      let client = no_native_client (in_trio the) in
      goes_on (suc (suc (suc (extra p.asks)))) (ground_stays t.m came.node client came.calm came.moment) more.longer
      (echoes more.at (stays (WaitsAt p) t.m t.a.n came.node client came.moment waits)
      (onward_stays came.node client (no_native_relay (in_trio the)) came.calm came.moment onward))

  -- the test is delivered to the relay, the latest entry
  pub record TestComes : Type 0 where
    pub last : ℕ
    pub d : Delivery t.lab H q last
    pub long : length (wire H) ≡ suc last
    pub at : OnSix H last (Some t.k) t.x
    pub waits : Waits p H

  -- the reply, at the relay
  module _ (test_comes : TestComes) where
    open test_comes use {last, d, long, at, waits}

    came : Arrival t.lab H q t.k (relay t.r) (six (Some t.k) t.x)
    came = comes_by_six (in_trio the) last t.x d at

    goes : gives.IsForClient (record { s = relay_settings t.lab.topology t.k t.r; j = (journal t.k H).entries; n = now H; x = t.x; is_one = is.packet.packet })
    goes = for_client (in_trio the) t.x is.packet.packet is.packet.source is.packet.destination is.small

    ground : Ground t (q ∷ H)
    ground = ground_stays t.k came.did.node (no_relay_client (in_trio the)) came.calm came.did.moment

    waits_on : Waits p (q ∷ H)
    waits_on = stays (WaitsAt p) t.k t.a.n came.did.node (no_relay_client (in_trio the)) came.did.moment waits

    -- it goes on
    sent_on : IsOpen t H → q.made ≡ sent (udp t.r.at (embedded own) t.x) ∷ [] → TrustsClient t (q ∷ H) → RelayIdle t (q ∷ H) → ToNext p H q last 4
    sent_on way made trusts idle =
        let more = one_more H q last (udp t.r.at (embedded own) t.x) long made in
        goes_on 2 ground more.longer
        (replies more.at trusts idle waits_on (still_open (in_trio the) (next_is (in_trio the) came.calm came.did.moment) way))

    pub at_relay : (b : Bool) → Onward p H b → ToNext p H q last (suc (suc (suc (suc (extra b)))))
    at_relay _ (at_once (to_trusted trusts way) idle) =
        sent_on way (goes_at_once (in_trio the) (record { x = t.x; one = is.packet.packet; to = is.packet.destination; for_client = goes }) came.did trusts)
        (trusts_on (in_trio the) (record { x = t.x; one = is.packet.packet; to = is.packet.destination; for_client = goes }) came.did trusts)
        (idle_after_sent (in_trio the) (record { x = t.x; one = is.packet.packet; to = is.packet.destination; for_client = goes; did = came.did; idle = idle }) trusts)
    at_relay _ (at_once (to_cone cone room) idle) =
        let g = goes_to_cone (in_trio the) (record { x = t.x; one = is.packet.packet; to = is.packet.destination; for_client = goes }) (record { did = came.did; untrusted = room.untrusted; room = room.room }) cone in
        sent_on (cone_along t.lab H (asks_at t.lab t.a.c) t.r.at (nats_of t.lab t.a.c) t.a.c.inside (embedded own) (is.cone cone) r.ground.way)
        g.0 g.1
        (idle_after_cone (in_trio the) (record { x = t.x; one = is.packet.packet; to = is.packet.destination; for_client = goes; did = came.did; idle = idle }) room.untrusted room.room cone)
    at_relay _ (asks_first plain asks may) =
        let g = waits_there (in_trio the) (record { x = t.x; one = is.packet.packet; to = is.packet.destination; for_client = goes }) (record { did = came.did; untrusted = asks.untrusted; room = asks.room }) plain asks.unbarred
        asks.nothing_waits refl in
        let more = one_more H q last (udp t.r.at (server_ep (server_in own)) (bubble_bytes t.r.six own)) long g.0 in
        goes_on 5 ground more.longer
        (bubbles more.at g.1 waits_on (stays (MayListAt p) t.k t.a.n came.did.node (no_relay_client (in_trio the)) came.did.moment may))

  -- the relay's bubble, at the server
  pub bubble_at_server : (last : ℕ) → Delivery t.lab H q last → length (wire H) ≡ suc last
      → At H last t.r.at (server_ep (server_in own)) (bubble_bytes t.r.six own) → RelayKeeps t H → Waits p H → MayList p H → ToNext p H q last 6
  bubble_at_server last d long at keeps waits may =
      let came = on_its_way.bubble_at_server (in_trio the) last d at in
      let more = one_more H q last (udp (asks_at t.lab t.a.c) (embedded own) (told t is)) long came.made in
      let client = no_server_client (in_trio the) in
      goes_on 4 (ground_stays t.a.c.server came.node client came.calm came.moment) more.longer
      (tells more.at
      (stays (RelayKeepsAt t) t.a.c.server t.k came.node (no_server_relay (in_trio the)) came.moment keeps)
      (stays (WaitsAt p) t.a.c.server t.a.n came.node client came.moment waits)
      (stays (MayListAt p) t.a.c.server t.a.n came.node client came.moment may))
