-- `barred` to a native host: the client is barred for it and sends nothing; or the relay must ask for the client, and is barred for it or the
-- client for the relay, so that the reply to the client's test doesn't come.
use Rattle.theory_reaching.proofs.Words.{KeepsToNatives, NoneButItsTest, Reach, RelayNode, Relayed, Some, SomeBrings, address_at, and_parts, ap, by_lines, false, has_cone, inl, inr, is_barred, is_some, known_by, known_by_relay, late_native_lines, native, not, now, relay_at, relayed, to_native_row, true, ◌&&◌, ◌||◌, ◌≡◌, ◌⊎◌}
use Rattle.theory_reaching.specs.declared.word.Reach.TheVariants as word
use Rattle.theory_reaching.proofs.to_native.Outwards as outwards
use Rattle.theory_reaching.proofs.to_native.Outwards.{GoesOutwards}
use Rattle.theory_reaching.proofs.to_native.OpeningLines.{past_opening}
use Rattle.theory_reaching.proofs.Tests.{elsewhere, held, failed, either}
use Rattle.theory_reaching.proofs.WordTests.{is_barred_word}
use Rattle.theory_reaching.proofs.Pairs.{of_client_and_native}
use Rattle.theory_reaching.proofs.to_native.SilentAsker.{stays_silent}
use Rattle.theory_reaching.proofs.to_native.OwnTest.{none_but_the_test}
use Rattle.theory_reaching.proofs.to_native.TestsOut.{IsAsking}
use Rattle.theory_reaching.proofs.to_native.TestUnlike.{IsNoTest}
use Rattle.theory_reaching.proofs.to_native.UnansweredTest.{relay_is_closed, client_is_barred}

-- WHAT THE LINES SAY

-- the host isn't fresh, and the client is barred for it, or somebody where the relay must ask
record IsHeldBack (a : Relayed) : Type 0 where
  settled : a.settled ≡ true
  stale : a.fresh ≡ false
  barred : (a.barred || (a.asks && a.bubble_barred)) ≡ true

held_back : (a : Relayed) → is_barred_word (to_native_row a) ≡ true → IsHeldBack a
held_back a = past_opening (λ (r : Reach). is_barred_word r ≡ true → IsHeldBack a) a (λ e. elsewhere e) (λ e. elsewhere e) (by_lines (λ (r : Reach). is_barred_word r ≡ true → IsHeldBack a) (late_native_lines a) word.Within6 (
  (λ _ e. elsewhere e),
  (λ settled. (
    (λ _ e. elsewhere e),
    (λ _. (
      (λ _ e. elsewhere e),
      (λ _. (
        (λ _ e. elsewhere e),
        (λ stale. (
          (λ _ e. elsewhere e),
          (λ _. (
            (λ barred _. record { settled = held a.settled settled; stale = stale; barred = barred }),
            (λ _. ((λ _ e. elsewhere e), (λ _. ((λ _ e. elsewhere e), (λ _ e. elsewhere e))))),
          )),
        )),
      )),
    )),
  )),
))

-- THE WORD

pub barred_is_kept : KeepsToNatives word.Barred
unfolding relayed
barred_is_kept lab H is chained q later n m c h x g at to said sent fresh =
    let s = of_client_and_native (record { lab = lab; H = H; n = n; m = m; said = word.Barred }) IsHeldBack (λ a w. held_back a (ap is_barred_word w)) c h at to said in
    of s.0 s.1 s.2 where
      goes : GoesOutwards lab H q later n m c h x
      goes = record { rules = is; chained = chained; grown = g; client_is = at; host_is = to; sent = sent; fresh = fresh }

      asking : (r : RelayNode) → relay_at lab.topology h.relay ≡ Some r → IsHeldBack (relayed lab H n c h r) → IsAsking lab H q n m c h r x
      asking r through s = outwards.asking (record { lab = lab; H = H; q = q; later = later; n = n; m = m; c = c; h = h; x = x; goes = goes }) r through s.settled s.stale

      -- the relay must ask, and is barred for the client, or the client for it
      unasked : (r : RelayNode) → IsAsking lab H q n m c h r x
          → ((relayed lab H n c h r).asks ≡ true) × ((relayed lab H n c h r).bubble_barred ≡ true) → IsNoTest lab H n h x
          → SomeBrings m (native h) x later → ⊥
      unasked r asks parts no_test = by (either (is_barred (now H) (known_by_relay H h.relay (address_at lab H n))) (is_barred (now H) (known_by H n r.six)) parts.1)
        where
          alike : (is_some (known_by_relay H h.relay (address_at lab H n)).trusted ≡ false) × (has_cone (address_at lab H n) ≡ false)
          alike =
              let trusts = is_some (known_by_relay H h.relay (address_at lab H n)).trusted in
              let two = and_parts (not trusts) (not (has_cone (address_at lab H n))) parts.0 in
              (failed trusts two.0, failed (has_cone (address_at lab H n)) two.1)

          by : (is_barred (now H) (known_by_relay H h.relay (address_at lab H n)) ≡ true) ⊎ (is_barred (now H) (known_by H n r.six) ≡ true)
              → SomeBrings m (native h) x later → ⊥
          by (inl barred) = relay_is_closed (record { lab = lab; H = H; q = q; n = n; m = m; c = c; h = h; r = r; x = x; asks = asks }) no_test alike.0 (inl (alike.1, barred)) later g fresh
          by (inr barred) = client_is_barred (record { lab = lab; H = H; q = q; n = n; m = m; c = c; h = h; r = r; x = x; asks = asks }) no_test alike.0 alike.1 barred later g fresh

      of : (r : RelayNode) → relay_at lab.topology h.relay ≡ Some r → IsHeldBack (relayed lab H n c h r) → NoneButItsTest H q m h x later
      of r through s = none_but_the_test (record { lab = lab; H = H; q = q; n = n; m = m; c = c; h = h; r = r; x = x; asks = asking r through s }) later g fresh
          (by (either (relayed lab H n c h r).barred ((relayed lab H n c h r).asks && (relayed lab H n c h r).bubble_barred) s.barred)) where
            by : ((relayed lab H n c h r).barred ≡ true) ⊎ (((relayed lab H n c h r).asks && (relayed lab H n c h r).bubble_barred) ≡ true)
                → IsNoTest lab H n h x → SomeBrings m (native h) x later → ⊥
            by (inl barred) no_test = stays_silent (record { lab = lab; H = H; q = q; n = n; m = m; c = c; h = h; r = r; x = x; asks = asking r through s })
                (inl barred) later g fresh
            by (inr both) no_test =
                unasked r (asking r through s) (and_parts (relayed lab H n c h r).asks (relayed lab H n c h r).bubble_barred both) no_test
