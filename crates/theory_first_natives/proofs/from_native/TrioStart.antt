-- A packet from a native host to a client comes: from where its schedule begins to its end.
use Rattle.theory_first_natives.proofs.Words.{AreFresh, AreOpen, Bool, Did, Full, Grown, Handing, HasNoFault, HostHandsIn, IsCalmNext, IsChained, IsHandedIn, IsLetIn, IsNextFromNative, IsSettledAlong, IsTopology, Item, Journal, List, MayAskClient, MayTest, NextFromNativeArrivesAlong, OfEachSchedule, Peer, Settles, Some, [], ap, arith, asked_along, at_same_moment, client_at, earlier, embedded, enters_by_its_way, entry_of, false, false≢true, fields_in, filter_map, given, has_cone, has_room, is_big, is_echo_reply, is_end, is_global6, is_open, is_teredo, is_trusted_at, item_in, items_of, journal, known_by, last_there, length, mentions, message_in, most_deliveries, most_from_native, must_ask, native, nats_of, no_ep, node_at, not, now, one_longer, one_open, other_journal, refl, relay, relay_mentions, sent, six, slice_get, sound_first, subst, sym, true, trusts_client, way_of_server, wire, ℕ, ◌&&◌, ◌++◌, ◌∙◌, ◌∷◌, ◌≡◌, ◌≤◌}
use Rattle.theory_first_natives.proofs.from_native.Trio.{Trio, IsTrio}
use Rattle.theory_first_natives.proofs.tables.ClientTests.{MayBeTested}
use Rattle.theory_first_natives.proofs.tables.Makes.{native_gives}
use Rattle.theory_first_natives.proofs.from_native.TrioStages.{HostStaysAt, HostStays, MayHearAt, RelayAsksAt, TrustsClientAt, RelayHasRoomAt, OnSix, IsOpen}
use Rattle.theory_first_natives.proofs.from_native.TrioStages.{to_trusted, to_cone, Stage, must_wait, goes_straight, Ground}
use Rattle.theory_first_natives.proofs.from_native.TrioAfter.{TrioRecord, IsRecord, no_native_client, no_native_relay, next_is, still_open, ground_on, same_address}
use Rattle.theory_first_natives.proofs.from_native.TrioBoards as boards
use Rattle.theory_first_natives.proofs.from_native.TrioBoards.{TrioRun, IsBound, Board, Course}
use Rattle.theory_first_packets.proofs.HandedIn as handed_in

pub bound_is : (trusted asks : Bool) → IsBound trusted (most_deliveries asks) (most_from_native trusted asks)
bound_is true true = record { tight = λ _. refl; loose = λ e. absurd (false≢true (sym e)) }
bound_is true false = record { tight = λ _. refl; loose = λ e. absurd (false≢true (sym e)) }
bound_is false asks = record { tight = λ e. absurd (false≢true e); loose = λ _. refl }

-- client, relay and native, of which some may know others, and the packet that the native's host hands in: as in `IsNextFromNative`, but that the
-- client may hold as many packets of the native as it may
pub record Starts (p : Trio) (H : List Full) (r : Full) : Type 0 where
  pub client : client_at p.lab.topology p.a.n ≡ Some p.a.c
  pub host : node_at p.lab.topology p.m ≡ Some (native p.h)
  pub through : p.h.relay ≡ p.k
  pub relay : node_at p.lab.topology p.k ≡ Some (relay p.r)
  pub settled : IsSettledAlong p.lab H p.a.n p.a.c p.a.own
  pub let_in : trusts_client H p.k p.a.own ≡ true → IsLetIn p.lab H (now H) p.r.at (embedded p.a.own) p.a.c
  pub host_room : has_room (mentions (journal p.a.n H).entries) (now H) p.h.six ≡ true
  pub client_room : has_room (relay_mentions (journal p.k H).entries) (now H) p.a.own ≡ true
  pub may_test : is_trusted_at p.r.at p.of_host ≡ false → MayBeTested (now H) p.of_host
  pub may_ask : must_ask H p.k p.a.own ≡ true → MayAskClient H p.a.n p.k p.a.own p.h.six p.r.six
  pub handed : HostHandsIn r p.m p.h.six p.a.own p.x
  pub no_reply : is_echo_reply (message_in (fields_in p.x)) ≡ false

-- so it is of a packet that may come
pub of_next : (p : Trio) (H : List Full) (r : Full) → IsNextFromNative p.lab H r p.a.n p.m p.k p.a.c p.h p.r p.a.own p.x
    → known_by H p.a.n p.h.six ≡ p.of_host → Starts p H r
of_next p H r next same = record {
  client = next.nodes.client;
  host = next.nodes.host;
  through = next.nodes.through;
  relay = next.nodes.relay;
  settled = next.nodes.settled;
  let_in = next.nodes.let_in;
  host_room = next.nodes.host_room;
  client_room = next.nodes.client_room;
  may_test = λ untrusted. tested (subst (λ (k : Peer). is_trusted_at p.r.at k ≡ false → MayTest (now H) k) same next.nodes.may_test untrusted);
  may_ask = next.nodes.may_ask;
  handed = next.handed;
  no_reply = next.no_reply;
} where
  tested : MayTest (now H) p.of_host → MayBeTested (now H) p.of_host
  tested may = record { stale = may.stale; unbarred = may.unbarred }

-- the record after a history, in which the native's host hands in the packet
pub record IsStart (p : Trio) (H : List Full) (r : Full) : Type 0 where
  pub rules : IsTopology p.lab.topology
  pub chained : IsChained p.lab
  pub grown : Grown p.lab (r ∷ H)
  pub packet : Starts p H r
  pub same : known_by H p.a.n p.h.six ≡ p.of_host
  pub sound : HasNoFault r

module _ (p : Trio) (H : List Full) (r : Full) (start : IsStart p H r) where
  settles : Settles p.lab H p.a.n p.a.c p.a.own
  settles = record {
    rules = start.rules;
    chained = start.chained;
    grown = start.grown.1;
    client = start.packet.client;
    settled = start.packet.settled;
  }

  -- the native's host handed the packet in
  is_handed_in : IsHandedIn p.lab H r p.m (native p.h) p.x
  is_handed_in = record {
    rules = start.rules;
    grown = start.grown;
    there = start.packet.host;
    own = p.h.six;
    other = p.a.own;
    handed = start.packet.handed;
  }

  hand : Handing p.lab H r p.m (native p.h) p.x
  hand = handed_in.hand p.lab H r p.m (native p.h) p.x is_handed_in

  did : Did p.lab H r p.m (native p.h) (entry_of p.lab H (now H) p.m no_ep (given p.x) (native p.h))
  did = handed_in.did p.lab H r p.m (native p.h) p.x is_handed_in

  small : is_big (fields_in p.x) ≡ false
  small = handed_in.small p.lab H r p.m (native p.h) p.x is_handed_in

  -- what holds throughout
  pub is_trio : IsTrio p
  is_trio = record {
    rules = start.rules;
    chained = start.chained;
    end = is_end p.lab H p.a.n p.a.c p.a.own settles;
    client_there = start.packet.client;
    kinds = start.packet.settled.kinds;
    cone = start.packet.settled.cone;
    native_there = start.packet.host;
    relay_there = start.packet.relay;
    through = start.packet.through;
    packet = start.packet.handed.packet;
    small = small;
  }

  ground : Ground p H
  ground = record {
    grown = start.grown.1;
    address = start.packet.settled.address;
    way = way_of_server p.lab H p.a.n p.a.c p.a.own settles;
  }

  is_record : IsRecord p H r
  is_record = record { trio = is_trio; ground = ground; follows = start.grown.0; sound = start.sound }

  abbrev latest : TrioRecord
  latest = record { p = p; H = H; q = r; r = is_record }

  next : IsCalmNext p.lab H r
  next = next_is latest hand.calm did.moment

  client_stays : journal p.a.n (r ∷ H) ≡ journal p.a.n H
  client_stays = other_journal p.lab H r p.m p.a.n did.node (no_native_client latest)

  relay_stays : journal p.k (r ∷ H) ≡ journal p.k H
  relay_stays = other_journal p.lab H r p.m p.k did.node (no_native_relay latest)

  made : r.made ≡ sent (six (Some p.k) p.x) ∷ []
  made = native_gives (record { lab = p.lab; H = H; q = r; m = p.m; h = p.h; x = p.x }) did start.packet.handed.packet.packet small start.packet.handed.packet.source
      (ap is_global6 start.packet.handed.packet.destination ∙ is_trio.end.address.of.global)
      (ap is_teredo start.packet.handed.packet.destination ∙ is_trio.end.address.of.teredo)
      ∙ ap (λ (k : ℕ). sent (six (Some k) p.x) ∷ []) is_trio.through

  items : items_of r ≡ six (Some p.k) p.x ∷ []
  items = ap (filter_map item_in) made

  -- its entry comes behind the wire
  number : r.first ≡ length (wire H)
  number = handed_in.number p.lab H r p.m (native p.h) p.x is_handed_in

  -- THE BOARD

  on_six : OnSix (r ∷ H) (length (wire H)) (Some p.k) p.x
  on_six = ap (λ (xs : List Item). slice_get (wire H ++ xs) (length (wire H))) items ∙ last_there (wire H) (six (Some p.k) p.x)

  relay_at_moment : (P : Journal → ℕ → Type 0) → P (journal p.k H) (now H) → P (journal p.k (r ∷ H)) (now (r ∷ H))
  relay_at_moment P holds = at_same_moment P H r p.k (journal p.k H) did.moment relay_stays holds

  client_at_moment : (P : Journal → ℕ → Type 0) → P (journal p.a.n H) (now H) → P (journal p.a.n (r ∷ H)) (now (r ∷ H))
  client_at_moment P holds = at_same_moment P H r p.a.n (journal p.a.n H) did.moment client_stays holds

  host_stays : HostStaysAt p (journal p.a.n H) (now H)
  host_stays = record {
    same = start.same;
    room = start.packet.host_room;
    may_test = start.packet.may_test;
  }

  host : HostStays p (r ∷ H)
  host = client_at_moment (HostStaysAt p) host_stays

  -- what the relay sends is let in where it trusts the client
  opened : trusts_client H p.k p.a.own ≡ true → IsOpen p (r ∷ H)
  opened trusts = still_open latest next
      (asked_along p.lab H start.grown.1 p.r.at (nats_of p.lab p.a.c) p.a.c.inside (embedded p.a.own)
      (enters_by_its_way p.lab H (now H) p.r.at (embedded p.a.own) p.a.c start.chained (start.packet.let_in trusts)))

  -- the relay must ask
  module _ (plain : has_cone p.a.own ≡ false) (untrusted : trusts_client H p.k p.a.own ≡ false) where
    may : MayAskClient H p.a.n p.k p.a.own p.h.six p.r.six
    may = start.packet.may_ask (ap (λ (b : Bool). not b && not (has_cone p.a.own)) untrusted ∙ ap not plain)

    waits : Stage p (r ∷ H) (length (wire H)) [] 9
    waits = must_wait on_six plain
        (relay_at_moment (RelayAsksAt p) (record {
          untrusted = untrusted;
          room = start.packet.client_room;
          unbarred = may.relay_unbarred;
          nothing_waits = may.nothing_waits;
        }))
        (client_at_moment (MayHearAt p) (record { host = host_stays; unbarred = may.client_unbarred; room = may.room; room_for_both = may.room_for_both }))

  abbrev pub trusts_host : Bool
  trusts_host = is_trusted_at p.r.at p.of_host

  abbrev asks_first : Bool
  asks_first = must_ask H p.k p.a.own

  abbrev pub total : ℕ
  total = most_deliveries asks_first

  abbrev pub most : ℕ
  most = most_from_native trusts_host asks_first

  abbrev pub bound : IsBound trusts_host total most
  bound = bound_is trusts_host asks_first

  abbrev run : TrioRun
  run = record { p = p; before = H; r = r; total = total; most = most; bound = bound }

  -- so many deliveries are left
  starts : {left : ℕ} → is_open left ≡ true → 5 ≤ left → left ≡ total → Stage p (r ∷ H) (length (wire H)) [] left → Board run []
  starts {left} open_too low same stage = record {
    last = length (wire H);
    left = left;
    ground = ground_on latest next (same_address latest client_stays);
    long = ap (λ (xs : List Item). length (wire H ++ xs)) items ∙ one_longer (wire H) (six (Some p.k) p.x);
    are = subst (λ (b : Bool). AreOpen r.first (length (wire H)) false b []) (sym open_too)
        (subst (λ (f : ℕ). AreOpen f (length (wire H)) false true []) (sym number) (one_open (length (wire H))));
    stage = stage;
    sum = omega (arith, same);
    early = λ _. low;
    silent = λ _ none. none;
  }

  board : Board run []
  board = by (trusts_client H p.k p.a.own) (has_cone p.a.own) refl refl where
    so_many : (t c : Bool) → trusts_client H p.k p.a.own ≡ t → has_cone p.a.own ≡ c → most_deliveries (not t && not c) ≡ total
    so_many t c trusts cone = ap (λ (b : Bool). most_deliveries (not b && not c)) (sym trusts)
        ∙ ap (λ (b : Bool). most_deliveries (not (trusts_client H p.k p.a.own) && not b)) (sym cone)

    by : (t c : Bool) → trusts_client H p.k p.a.own ≡ t → has_cone p.a.own ≡ c → Board run []
    by true c trusts cone = starts refl (omega arith) (so_many true c trusts cone) (goes_straight on_six (to_trusted (relay_at_moment (TrustsClientAt p) trusts) (opened trusts)) host)
    by false true untrusted cone = starts refl (omega arith) (so_many false true untrusted cone) (goes_straight on_six
        (to_cone cone (relay_at_moment (RelayHasRoomAt p) (record { untrusted = untrusted; room = start.packet.client_room }))) host)
    by false false untrusted plain = starts refl (omega arith) (so_many false false untrusted plain) (waits plain untrusted)

  -- the whole schedule
  pub carried : (later : List Full) → Grown p.lab (later ++ r ∷ H) → AreFresh r later → Course run later
  carried later g fresh = boards.course run is_trio start.packet.no_reply later g fresh board

-- each packet of a native host that may come comes
pub each_next : OfEachSchedule NextFromNativeArrivesAlong
each_next lab H r later rules chained g n m k a h via own x next fresh =
    let p : Trio = record { lab = lab; a = record { n = n; c = a; own = own }; m = m; k = k; h = h; r = via; of_host = known_by H n h.six; x = x } in
    let trusted : Bool = is_trusted_at via.at (known_by H n h.six) in
    boards.in_time (record {
      p = p;
      before = H;
      r = r;
      total = most_deliveries (must_ask H k own);
      most = most_from_native trusted (must_ask H k own);
      bound = bound_is trusted (must_ask H k own);
    }) later (carried p H r (record {
      rules = rules;
      chained = chained;
      grown = earlier lab later (r ∷ H) g;
      packet = of_next p H r next refl;
      same = refl;
      sound = sound_first r later fresh;
    }) later g fresh) (λ untrusted full. absurd (false≢true (sym (next.nodes.may_test untrusted).kept ∙ full)))
