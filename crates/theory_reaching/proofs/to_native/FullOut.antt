-- `full` to a native host: the client has no room for it and sends nothing; or the relay has none for the client, or must ask for it and
-- the client has no room for both, so that the reply to the client's test doesn't come.
use Rattle.theory_reaching.proofs.Words.{Bool, KeepsToNatives, NoneButItsTest, Peer, Reach, RelayNode, Relayed, Some, SomeBrings, address_at, and_cases, and_parts, ap, by_lines, clients_of, false, has_cone, has_room, has_room_for_both, inl, inr, is_some, known_by_relay, late_native_lines, native, not, not_listed, now, peers_of, refl, relay_at, relayed, to_native_row, true, unlisted_is_unknown, ◌&&◌, ◌||◌, ◌≡◌, ◌⊎◌}
use Rattle.theory_reaching.specs.declared.word.Reach.TheVariants as word
use Rattle.theory_reaching.proofs.to_native.Outwards as outwards
use Rattle.theory_reaching.proofs.to_native.Outwards.{GoesOutwards}
use Rattle.theory_reaching.proofs.to_native.OpeningLines.{past_opening}
use Rattle.theory_reaching.proofs.Tests.{elsewhere, held, failed, either}
use Rattle.theory_reaching.proofs.WordTests.{is_full_word}
use Rattle.theory_reaching.proofs.Pairs.{of_client_and_native}
use Rattle.theory_reaching.proofs.to_native.SilentAsker.{stays_silent}
use Rattle.theory_reaching.proofs.to_native.OwnTest.{none_but_the_test}
use Rattle.theory_reaching.proofs.to_native.TestsOut.{IsAsking}
use Rattle.theory_reaching.proofs.to_native.TestUnlike.{IsNoTest}
use Rattle.theory_reaching.proofs.to_native.UnansweredTest.{relay_is_closed, no_room_for_both}

-- WHAT THE LINES SAY

-- the host isn't fresh, and somebody has no room
record IsCrowded (a : Relayed) : Type 0 where
  settled : a.settled ≡ true
  stale : a.fresh ≡ false
  crowded : (not a.room || (a.asks && not a.room_for_both)) ≡ true

crowded : (a : Relayed) → is_full_word (to_native_row a) ≡ true → IsCrowded a
crowded a = past_opening (λ (r : Reach). is_full_word r ≡ true → IsCrowded a) a (λ e. elsewhere e) (λ e. elsewhere e) (by_lines (λ (r : Reach). is_full_word r ≡ true → IsCrowded a) (late_native_lines a) word.Within6 (
  (λ _ e. elsewhere e),
  (λ settled. (
    (λ _ e. elsewhere e),
    (λ _. (
      (λ _ e. elsewhere e),
      (λ _. (
        (λ _ e. elsewhere e),
        (λ stale. (
          (λ _ e. elsewhere e),
          (λ _. (
            (λ _ e. elsewhere e),
            (λ _. (
              (λ full _. record { settled = held a.settled settled; stale = stale; crowded = full }),
              (λ _. ((λ _ e. elsewhere e), (λ _ e. elsewhere e))),
            )),
          )),
        )),
      )),
    )),
  )),
))

-- THE WORD

pub full_is_kept : KeepsToNatives word.Full
unfolding relayed
full_is_kept lab H is chained q later n m c h x g at to said sent fresh =
    let s = of_client_and_native (record { lab = lab; H = H; n = n; m = m; said = word.Full }) IsCrowded (λ a w. crowded a (ap is_full_word w)) c h at to said in
    of s.0 s.1 s.2 where
      goes : GoesOutwards lab H q later n m c h x
      goes = record { rules = is; chained = chained; grown = g; client_is = at; host_is = to; sent = sent; fresh = fresh }

      asking : (r : RelayNode) → relay_at lab.topology h.relay ≡ Some r → IsCrowded (relayed lab H n c h r) → IsAsking lab H q n m c h r x
      asking r through s = outwards.asking (record { lab = lab; H = H; q = q; later = later; n = n; m = m; c = c; h = h; x = x; goes = goes }) r through s.settled s.stale

      -- the relay has no room for the client, so it neither trusts nor lists it
      relay_full : (r : RelayNode) → IsAsking lab H q n m c h r x → has_room (clients_of H h.relay) (now H) (address_at lab H n) ≡ false
          → IsNoTest lab H n h x → SomeBrings m (native h) x later → ⊥
      relay_full r asks full no_test = relay_is_closed (record { lab = lab; H = H; q = q; n = n; m = m; c = c; h = h; r = r; x = x; asks = asks }) no_test unknown (inr full) later g fresh where
        unknown : is_some (known_by_relay H h.relay (address_at lab H n)).trusted ≡ false
        unknown = ap (λ (z : Peer). is_some z.trusted) (unlisted_is_unknown (clients_of H h.relay) (now H) (address_at lab H n)
            (not_listed (clients_of H h.relay) (now H) (address_at lab H n) full))

      of : (r : RelayNode) → relay_at lab.topology h.relay ≡ Some r → IsCrowded (relayed lab H n c h r) → NoneButItsTest H q m h x later
      of r through s = none_but_the_test (record { lab = lab; H = H; q = q; n = n; m = m; c = c; h = h; r = r; x = x; asks = asking r through s }) later g fresh
          (by (either (not (relayed lab H n c h r).room) ((relayed lab H n c h r).asks && not (relayed lab H n c h r).room_for_both) s.crowded)) where
            asks : IsAsking lab H q n m c h r x
            asks = asking r through s

            some_full : (has_room (peers_of H n) (now H) h.six ≡ false) ⊎ (has_room (clients_of H h.relay) (now H) (address_at lab H n) ≡ false)
                → IsNoTest lab H n h x → SomeBrings m (native h) x later → ⊥
            some_full (inl full) no_test = stays_silent (record { lab = lab; H = H; q = q; n = n; m = m; c = c; h = h; r = r; x = x; asks = asks })
                (inr full) later g fresh
            some_full (inr full) no_test = relay_full r asks full no_test

            both : (b : Bool) → has_room (peers_of H n) (now H) h.six ≡ b → ((relayed lab H n c h r).asks ≡ true)
                × (not (relayed lab H n c h r).room_for_both ≡ true) → IsNoTest lab H n h x → SomeBrings m (native h) x later → ⊥
            both false is parts no_test = stays_silent (record { lab = lab; H = H; q = q; n = n; m = m; c = c; h = h; r = r; x = x; asks = asks })
                (inr is) later g fresh
            both true is parts no_test =
                let trusts = is_some (known_by_relay H h.relay (address_at lab H n)).trusted in
                let two = and_parts (not trusts) (not (has_cone (address_at lab H n))) parts.0 in
                no_room_for_both (record { lab = lab; H = H; q = q; n = n; m = m; c = c; h = h; r = r; x = x; asks = asks }) no_test (failed trusts two.0) (failed (has_cone (address_at lab H n)) two.1) is
                (failed (has_room_for_both (peers_of H n) (now H) h.six r.six) parts.1) later g fresh

            by : (not (relayed lab H n c h r).room ≡ true) ⊎ (((relayed lab H n c h r).asks && not (relayed lab H n c h r).room_for_both) ≡ true)
                → IsNoTest lab H n h x → SomeBrings m (native h) x later → ⊥
            by (inl full) no_test = some_full (and_cases (has_room (peers_of H n) (now H) h.six) (has_room (clients_of H h.relay) (now H) (address_at lab H n))
                (failed (relayed lab H n c h r).room full)) no_test
            by (inr two) no_test = both (has_room (peers_of H n) (now H) h.six) refl
                (and_parts (relayed lab H n c h r).asks (not (relayed lab H n c h r).room_for_both) two) no_test
