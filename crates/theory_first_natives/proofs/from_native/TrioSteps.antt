-- The steps of a packet from a native host: what each delivery leaves.
use Rattle.theory_first_natives.proofs.Words.{Arrival, At, Delivery, Full, GivesToHost, Ip6, IsCalmNext, List, Some, Strict, [], ap, asks_at, at_same_moment, bubble_bytes, cone_along, embedded, false, fields_in, has_cone, is_big, is_global6, is_packet, is_reachable, is_teredo, journal, length, nats_of, now, one_more, other_journal, refl, relay, relay_settings, same_ip, sent, server_ep, server_in, six, suc, true, udp, wire, ℕ, ◌∙◌, ◌∷◌, ◌≡◌}
use Rattle.theory_first_natives.proofs.from_native.Trio.{IsTrio, no_loop, native_keeps}
use Rattle.theory_first_natives.proofs.tables.RelayGives as gives
use Rattle.theory_first_natives.proofs.from_native.RelaySteps.{reachable, comes_by_six, comes_by_datagram, goes_at_once, trusts_on, goes_to_cone, waits_there, bubble_frees}
use Rattle.theory_first_natives.proofs.from_native.OnItsWay.{bubble_at_server}
use Rattle.theory_first_natives.proofs.tables.ServerTells.{told}
use Rattle.theory_first_natives.proofs.from_native.TrioStages.{OnSix, HostStaysAt, HostStays, MayHearAt, MayHear, RelayAsks, RelayKeepsAt, RelayKeeps, TrustsClient, IsOpen}
use Rattle.theory_first_natives.proofs.from_native.TrioStages.{SendsAtOnce, to_trusted, to_cone, bubbles, tells, comes, Next, goes_on}
use Rattle.theory_first_natives.proofs.from_native.TrioAfter.{TrioRecord, no_relay_client, no_server_client, no_server_relay, next_is, of_another, still_open, ground_on, same_address}

module _ (the : TrioRecord) where
  open the use {p, H, q, r}

  abbrev is : IsTrio p
  is = r.trio

  abbrev own : Ip6
  own = p.a.own

  -- a packet from the native to the client is one that the relay may send on
  pub for_client : (x : List ℕ) (one : is_packet x ≡ true) → (fields_in x).src ≡ p.h.six → (fields_in x).dst ≡ own → is_big (fields_in x) ≡ false
      → gives.IsForClient (record { s = relay_settings p.lab.topology p.k p.r; j = (journal p.k H).entries; n = now H; x = x; is_one = one })
  for_client x one src dst little = record {
    short = little;
    teredo = ap is_teredo dst ∙ is.end.address.of.teredo;
    native = ap is_teredo src ∙ (native_keeps p is).outside.other;
    global = ap is_global6 src ∙ (native_keeps p is).outside.global;
    reachable = ap (is_reachable Strict) dst ∙ reachable the;
    unlooped = ap (λ (z : Ip6). same_ip (embedded z).ip p.r.at.ip) dst ∙ no_loop p is;
  }

  -- the client's journal stays where the relay does something, and where the server does
  pub client_stays : (k : ℕ) → q.node ≡ Some k → (k ≡ p.a.n → ⊥) → journal p.a.n (q ∷ H) ≡ journal p.a.n H
  client_stays k node apart = other_journal p.lab H q k p.a.n node apart

  -- THE PACKET, AT THE RELAY

  -- the packet is delivered to the relay, the latest entry
  pub record PacketComes : Type 0 where
    pub last : ℕ
    pub later : List Full
    pub d : Delivery p.lab H q last
    pub long : length (wire H) ≡ suc last
    pub at : OnSix H last (Some p.k) p.x

  module _ (delivery : PacketComes) where
    open delivery use {last, later, d, long, at}

    came : Arrival p.lab H q p.k (relay p.r) (six (Some p.k) p.x)
    came = comes_by_six the last p.x d at

    may : gives.IsForClient (record { s = relay_settings p.lab.topology p.k p.r; j = (journal p.k H).entries; n = now H; x = p.x; is_one = is.packet.packet })
    may = for_client p.x is.packet.packet is.packet.source is.packet.destination is.small

    same : journal p.a.n (q ∷ H) ≡ journal p.a.n H
    same = client_stays p.k came.did.node (no_relay_client the)

    next : IsCalmNext p.lab H q
    next = next_is the came.calm came.did.moment

    silent : GivesToHost p.a.n p.x q → ⊥
    silent = of_another the p.k came.did.node (no_relay_client the)

    -- it goes on to the client
    goes_on_there : HostStays p H → IsOpen p H → (q.made ≡ sent (udp p.r.at (embedded own) p.x) ∷ []) × TrustsClient p (q ∷ H) → Next p H q last later 6
    goes_on_there host way g =
        let more = one_more H q last (udp p.r.at (embedded own) p.x) long g.0 in
        goes_on 4 (ground_on the next (same_address the same)) more.longer
        (comes more.at g.1 (at_same_moment (HostStaysAt p) H q p.a.n (journal p.a.n H) came.did.moment same host) (still_open the next way)) silent

    pub at_relay : SendsAtOnce p H → HostStays p H → Next p H q last later 6
    at_relay (to_trusted trusts way) host =
        goes_on_there host way (
          goes_at_once the (record { x = p.x; one = is.packet.packet; to = is.packet.destination; for_client = may }) came.did trusts,
          trusts_on the (record { x = p.x; one = is.packet.packet; to = is.packet.destination; for_client = may }) came.did trusts,
        )
    at_relay (to_cone cone room) host =
        goes_on_there host (cone_along p.lab H (asks_at p.lab p.a.c) p.r.at (nats_of p.lab p.a.c) p.a.c.inside (embedded own) (is.cone cone) r.ground.way)
        (goes_to_cone the (record { x = p.x; one = is.packet.packet; to = is.packet.destination; for_client = may }) (record { did = came.did; untrusted = room.untrusted; room = room.room }) cone)

    -- it waits there
    pub waits_at_relay : has_cone own ≡ false → RelayAsks p H → MayHear p H → Next p H q last later 9
    waits_at_relay plain asks hear =
        let g = waits_there the (record { x = p.x; one = is.packet.packet; to = is.packet.destination; for_client = may }) (record { did = came.did; untrusted = asks.untrusted; room = asks.room }) plain asks.unbarred
        asks.nothing_waits refl in
        let more = one_more H q last (udp p.r.at (server_ep (server_in own)) (bubble_bytes p.r.six own)) long g.0 in
        goes_on 7 (ground_on the next (same_address the same)) more.longer
        (bubbles more.at g.1 (at_same_moment (MayHearAt p) H q p.a.n (journal p.a.n H) came.did.moment same hear)) silent

  -- the relay's bubble, at the server
  pub at_server : (last : ℕ) (later : List Full) → Delivery p.lab H q last → length (wire H) ≡ suc last
      → At H last p.r.at (server_ep (server_in own)) (bubble_bytes p.r.six own) → RelayKeeps p H → MayHear p H → Next p H q last later 8
  at_server last later d long at keeps may =
      let came = bubble_at_server the last d at in
      let more = one_more H q last (udp (asks_at p.lab p.a.c) (embedded own) (told p is)) long came.made in
      let next = next_is the came.calm came.moment in
      let same = client_stays p.a.c.server came.node (no_server_client the) in
      let relays = other_journal p.lab H q p.a.c.server p.k came.node (no_server_relay the) in
      goes_on 6 (ground_on the next (same_address the same)) more.longer
      (tells more.at
      (at_same_moment (RelayKeepsAt p) H q p.k (journal p.k H) came.moment relays keeps)
      (at_same_moment (MayHearAt p) H q p.a.n (journal p.a.n H) came.moment same may))
      (of_another the p.a.c.server came.node (no_server_client the))

  -- the client's bubble, at the relay
  pub at_relay_again : {last : ℕ} (later : List Full) → Delivery p.lab H q last → length (wire H) ≡ suc last
      → At H last (embedded own) p.r.at (bubble_bytes own p.r.six) → RelayKeeps p H → HostStays p H → IsOpen p H → Next p H q last later 6
  at_relay_again {last} later d long at keeps host way =
      let came : Arrival p.lab H q p.k (relay p.r) (udp (embedded own) p.r.at (bubble_bytes own p.r.six)) =
      comes_by_datagram the last (embedded own) (bubble_bytes own p.r.six) d at in
      let g = bubble_frees the came.did keeps in
      let more = one_more H q last (udp p.r.at (embedded own) p.x) long g.0 in
      let next = next_is the came.calm came.did.moment in
      let same = client_stays p.k came.did.node (no_relay_client the) in
      goes_on 4 (ground_on the next (same_address the same)) more.longer
      (comes more.at g.1.trusted (at_same_moment (HostStaysAt p) H q p.a.n (journal p.a.n H) came.did.moment same host) (still_open the next way))
      (of_another the p.k came.did.node (no_relay_client the))
