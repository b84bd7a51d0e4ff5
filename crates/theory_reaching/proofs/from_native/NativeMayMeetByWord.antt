-- The words within so many deliveries from a native host: the lines before them say that client, host and relay may meet.
use Rattle.theory_reaching.proofs.Words.{Bool, ClientNode, Full, Ip6, IsLetIn, Lab, List, MayAskClient, MayMeetThroughRelay, MayTest, NativeNode, Reach, RelayNode, Relayed, Some, address_at, and_parts, ap, as_client, by_lines, client, clients_of, embedded, false, from_native_lines, from_native_row, has_room, inl, inr, is_barred, is_trusted_at, known_by, known_by_relay, must_ask, native, node_at, not, now, option_and_then, or_parts, peers_of, refl, relay_at, relayed, true, trusts_client, ℕ, ◌&&◌, ◌||◌, ◌≡◌, ◌⊎◌}
use Rattle.theory_reaching.specs.declared.word.Reach.TheVariants as word
use Rattle.theory_reaching.proofs.Tests.{held, second_fails, first_fails}
use Rattle.theory_reaching.proofs.waiting.KeptBack.{none_kept}
use Rattle.theory_reaching.proofs.waiting.OverEvents.{IsWhole}
use Rattle.theory_reaching.proofs.waiting.RelayAdds.{relay_kept_back}
use Rattle.theory_reaching.proofs.relays.Relays.{relay_is_there}
use Rattle.theory_reaching.proofs.clients.SettledClients.{let_in, settled_along}
use Rattle.theory_reaching.proofs.entries.RoomForBoth.{room_for_second, room_for_two}

-- WHAT THE LINES SAY

abbrev pub is_nine : Reach → Bool
is_nine word.Within9 = true
is_nine _ = false

abbrev pub is_tested : Reach → Bool
is_tested word.Within6 = true
is_tested word.Within9 = true
is_tested _ = false

-- all lines but the last ones are passed, and these ask whether the client trusts the host at the relay, and whether the relay must hear from
-- the client first
pub record PassesTo (trusted nine : Bool) (a : Relayed) : Type 0 where
  pub settled : a.settled ≡ true
  pub let_in : (a.trusts && not a.let_in) ≡ false
  pub stale : (a.fresh && not a.trusted) ≡ false
  pub unbarred : ((not a.trusted && a.barred) || (a.asks && a.bubble_barred)) ≡ false
  pub room : (not a.room || ((not a.trusted && a.holds_most) || (a.asks && not a.room_for_both))) ≡ false
  pub host_trusted : a.trusted ≡ trusted
  pub asks : a.asks ≡ nine

-- the relay trusts the client and is let in to it, and the client trusts the host there
pub record IsKnownBack (a : Relayed) : Type 0 where
  pub settled : a.settled ≡ true
  pub let_in : (a.trusts && not a.let_in) ≡ false
  pub known : (a.trusts && a.trusted) ≡ true

-- what the words within so many deliveries say of what is seen
abbrev pub SaysBack : Relayed → Reach → Type 0
SaysBack a word.Within2 = IsKnownBack a ⊎ PassesTo true false a
SaysBack a word.Within5 = PassesTo true true a
SaysBack a word.Within6 = PassesTo false false a
SaysBack a word.Within9 = PassesTo false true a
SaysBack a _ = Unit {0}

pub says_back : (a : Relayed) → SaysBack a (from_native_row a)
says_back a = by_lines (SaysBack a) (from_native_lines a) word.Within6 (
  (λ _. tt),
  (λ _. (
    (λ _. tt),
    (λ settled. (
      (λ _. tt),
      (λ let_in. (
        (λ known. inl (record { settled = held a.settled settled; let_in = let_in; known = known })),
        (λ _. (
          (λ _. tt),
          (λ stale. (
            (λ _. tt),
            (λ unbarred. (
              (λ _. tt),
              (λ room. (
                (λ both. let parts = and_parts a.trusted a.asks both in all true true settled let_in stale unbarred room parts.0 parts.1),
                (λ not_both. (
                  (λ trusted. inr (all true false settled let_in stale unbarred room trusted (second_fails a.trusted a.asks not_both trusted))),
                  (λ untrusted. (
                    (λ asks. all false true settled let_in stale unbarred room untrusted asks),
                    (λ asks. all false false settled let_in stale unbarred room untrusted asks),
                  )),
                )),
              )),
            )),
          )),
        )),
      )),
    )),
  )),
) where
  all : (trusted nine : Bool) → not a.settled ≡ false → (a.trusts && not a.let_in) ≡ false → (a.fresh && not a.trusted) ≡ false
      → ((not a.trusted && a.barred) || (a.asks && a.bubble_barred)) ≡ false
      → (not a.room || ((not a.trusted && a.holds_most) || (a.asks && not a.room_for_both))) ≡ false → a.trusted ≡ trusted → a.asks ≡ nine
      → PassesTo trusted nine a
  all trusted nine settled let_in stale unbarred room host_trusted asks = record {
    settled = held a.settled settled;
    let_in = let_in;
    stale = stale;
    unbarred = unbarred;
    room = room;
    host_trusted = host_trusted;
    asks = asks;
  }

-- WHAT THE THREE ARE

-- a client, a native host and its relay after a history
pub record NativeThrough : Type 0 where
  pub lab : Lab
  pub H : List Full
  pub n : ℕ
  pub m : ℕ
  pub c : ClientNode
  pub h : NativeNode
  pub r : RelayNode
  pub at : node_at lab.topology n ≡ Some (client c)
  pub to : node_at lab.topology m ≡ Some (native h)
  pub through : relay_at lab.topology h.relay ≡ Some r

-- node n is the client c, and node m the native h, whose relay is r
module _ (native_through : NativeThrough) where
  open native_through use {lab, H, n, m, c, h, r, at, to, through}

  abbrev own : Ip6
  own = address_at lab H n

  -- where the relay trusts the client it is let in to it
  pub opened : ((relayed lab H n c h r).trusts && not (relayed lab H n c h r).let_in) ≡ false → trusts_client H h.relay own ≡ true
      → IsLetIn lab H (now H) r.at (embedded own) c
  unfolding relayed
  opened open_way trusts =
      let w = relayed lab H n c h r in
      let_in lab H n c r.at (embedded own) at (held w.let_in (second_fails w.trusts (not w.let_in) open_way trusts))

  -- where the relay must hear from the client first, it may ask
  pub asks : IsWhole lab H → ((relayed lab H n c h r).asks && (relayed lab H n c h r).bubble_barred) ≡ false
      → ((relayed lab H n c h r).asks && not (relayed lab H n c h r).room_for_both) ≡ false → must_ask H h.relay own ≡ true
      → MayAskClient H n h.relay own h.six r.six
  unfolding relayed
  asks whole unbarred room must =
      let w = relayed lab H n c h r in
      let bubbles = or_parts (is_barred (now H) (known_by_relay H h.relay own)) (is_barred (now H) (known_by H n r.six))
      (second_fails w.asks w.bubble_barred unbarred must) in
      let both = held w.room_for_both (second_fails w.asks (not w.room_for_both) room must) in
      record {
        nothing_waits = none_kept (now H) (known_by_relay H h.relay own)
            (relay_kept_back lab h.relay r (relay_is_there lab.topology h.relay r through) own H whole.grown whole.over) bubbles.0;
        relay_unbarred = bubbles.0;
        client_unbarred = bubbles.1;
        room = room_for_second (peers_of H n) (now H) h.six r.six both;
        room_for_both = room_for_two (peers_of H n) (now H) h.six r.six both;
      }

  module _ (trusted nine : Bool) (p : PassesTo trusted nine (relayed lab H n c h r)) where
    -- where the client doesn't trust the host there, it may test it
    tests : is_trusted_at r.at (known_by H n h.six) ≡ false → MayTest (now H) (known_by H n h.six)
    unfolding relayed
    tests untrusted =
        let w = relayed lab H n c h r in
        let unbarred = or_parts (not w.trusted && w.barred) (w.asks && w.bubble_barred) p.unbarred in
        let room = or_parts (not w.room) ((not w.trusted && w.holds_most) || (w.asks && not w.room_for_both)) p.room in
        let kept = or_parts (not w.trusted && w.holds_most) (w.asks && not w.room_for_both) room.1 in
        record {
          stale = first_fails w.fresh w.trusted p.stale untrusted;
          unbarred = second_fails (not w.trusted) w.barred unbarred.0 (ap not untrusted);
          kept = second_fails (not w.trusted) w.holds_most kept.0 (ap not untrusted);
        }

    pub native_may_meet : IsWhole lab H → MayMeetThroughRelay lab H n m h.relay c h r own
    unfolding relayed
    native_may_meet whole =
        let w = relayed lab H n c h r in
        let room = or_parts (not w.room) ((not w.trusted && w.holds_most) || (w.asks && not w.room_for_both)) p.room in
        let places_left = or_parts (not w.trusted && w.holds_most) (w.asks && not w.room_for_both) room.1 in
        let rooms = and_parts (has_room (peers_of H n) (now H) h.six) (has_room (clients_of H h.relay) (now H) own) (held w.room room.0) in
        record {
          client = ap (option_and_then as_client) at;
          host = to;
          through = refl;
          relay = relay_is_there lab.topology h.relay r through;
          settled = settled_along lab H n c at p.settled;
          let_in = opened p.let_in;
          host_room = rooms.0;
          client_room = rooms.1;
          may_test = tests;
          may_ask = asks whole (or_parts (not w.trusted && w.barred) (w.asks && w.bubble_barred) p.unbarred).1 places_left.1;
        }
