-- A client, a native host and its relay that are new to each other may meet, and a first packet comes as any other does: it is the
-- only one that comes, late.
use Rattle.theory_first_natives.proofs.Words.{AreNewToEachOther, Bool, ClientNode, FirstFromNativeArrivesAlong, Full, Ip6, Lab, List, MayAskClient, MayMeetThroughRelay, MayTest, NativeNode, OfEachSchedule, PEERS_MAX, Peer, RelayNode, ap, arith, earlier, false, false≢true, has_cone, is_barred, is_some, is_trusted_at, journal, known_by, known_by_relay, length, listed, mentions, most_deliveries, most_from_native, must_ask, no_peer, not, now, refl, relay_mentions, sound_first, subst, sym, true, trusts_client, unlisted, ℕ, ◌&&◌, ◌+◌, ◌<◌, ◌∙◌, ◌∷◌, ◌≡◌, ◌≤◌}
use Rattle.theory_first_natives.proofs.tables.ClientHere.{not_fresh, nobody_barred, nobody_holds}
use Rattle.theory_first_natives.proofs.tables.OneMoreListed.{room_where}
use Rattle.theory_first_natives.proofs.from_native.Trio.{Trio}
use Rattle.theory_first_natives.proofs.from_native.TrioStages.{is_strange}
use Rattle.theory_first_natives.proofs.from_native.TrioBoards as boards
use Rattle.theory_first_natives.proofs.from_native.TrioBoards.{TrioRun, IsBound, Board}
use Rattle.theory_first_natives.proofs.from_native.TrioStart.{bound_is, of_next, carried}

-- THE PREMISE

module _ (lab : Lab) (H : List Full) (n m k : ℕ) (a : ClientNode) (h : NativeNode) (r : RelayNode) (own : Ip6)
    (new : AreNewToEachOther lab H n m k a h r own) where
  pub unknown_host : known_by H n h.six ≡ no_peer
  unknown_host = unlisted (mentions (journal n H).entries) (now H) h.six new.host_new.unlisted

  pub unknown_client : known_by_relay H k own ≡ no_peer
  unknown_client = unlisted (relay_mentions (journal k H).entries) (now H) own new.client_new.unlisted

  pub untrusted : trusts_client H k own ≡ false
  untrusted = ap (λ (p : Peer). is_some p.trusted) unknown_client

  plain : must_ask H k own ≡ true → has_cone own ≡ false
  plain asks = by (trusts_client H k own) (has_cone own) asks where
    by : (t c : Bool) → (not t && not c) ≡ true → c ≡ false
    by false false e = refl
    by false true e = absurd (false≢true e)
    by true c e = absurd (false≢true e)

  less : (i : ℕ) → i + 2 ≤ PEERS_MAX → i < PEERS_MAX
  less i two = omega (arith, two)

  asks_new : has_cone own ≡ false → MayAskClient H n k own h.six r.six
  asks_new no_cone =
      let relay_new = new.relay_new no_cone in
      record {
        nothing_waits = ap (λ (p : Peer). p.waiting) unknown_client;
        relay_unbarred = ap (is_barred (now H)) unknown_client ∙ nobody_barred (now H);
        client_unbarred = ap (is_barred (now H)) (unlisted (mentions (journal n H).entries) (now H) r.six relay_new.unlisted) ∙ nobody_barred (now H);
        room = room_where (mentions (journal n H).entries) (now H) r.six (less (length (listed (mentions (journal n H).entries) (now H))) relay_new.room);
        room_for_both = λ _ _. relay_new.room;
      }

  pub may_meet : MayMeetThroughRelay lab H n m k a h r own
  may_meet = record {
    client = new.client;
    host = new.host;
    through = new.through;
    relay = new.relay;
    settled = new.settled;
    let_in = λ trusts. absurd (false≢true (sym untrusted ∙ trusts));
    host_room = new.host_new.room;
    client_room = new.client_new.room;
    may_test = λ _. subst (MayTest (now H)) (sym unknown_host)
        (record { stale = not_fresh (now H) no_peer refl; unbarred = nobody_barred (now H); kept = nobody_holds });
    may_ask = λ asks. asks_new (plain asks);
  }

-- THE FIRST PACKET

-- where the client has the cone bit nobody must ask
few_to_cone : (t c : Bool) (i : ℕ) → i ≤ most_deliveries (not t && not c) → c ≡ true → i ≤ 6
few_to_cone true c i few cone = few
few_to_cone false true i few cone = few
few_to_cone false false i few cone = absurd (false≢true cone)

most : (b : Bool) (i : ℕ) → i ≤ most_deliveries b → i ≤ 9
most true i few = few
most false i few = omega (arith, few)

pub each_first : OfEachSchedule FirstFromNativeArrivesAlong
each_first lab H r later rules chained g n m k a h relay own x first fresh =
    let p : Trio = record { lab = lab; a = record { n = n; c = a; own = own }; m = m; k = k; h = h; r = relay; of_host = known_by H n h.six; x = x } in
    let total : ℕ = most_deliveries (must_ask H k own) in
    let trusted : Bool = is_trusted_at relay.at (known_by H n h.six) in
    let most_ : ℕ = most_from_native trusted (must_ask H k own) in
    let bound : IsBound trusted total most_ = bound_is trusted (must_ask H k own) in
    let run : TrioRun = record { p = p; before = H; r = r; total = total; most = most_; bound = bound } in
    let board : Board run later = boards.of_stranger run later
    (ap is_strange (unknown_host lab H n m k a h relay own first.nodes))
    (carried p H r (record {
      rules = rules;
      chained = chained;
      grown = earlier lab later (r ∷ H) g;
      packet = of_next p H r (record {
        nodes = may_meet lab H n m k a h relay own first.nodes;
        handed = first.handed;
        no_reply = first.no_reply;
      }) refl;
      same = refl;
      sound = sound_first r later fresh;
    }) later g fresh) in
    let few : length later ≤ total = boards.few run later board in
    record {
      few = most (must_ask H k own) (length later) few;
      few_to_cone = few_to_cone (trusts_client H k own) (has_cone own) (length later) few;
      arrives = boards.arrives run later board;
    }
