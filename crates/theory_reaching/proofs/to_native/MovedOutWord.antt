-- `moved` of a client on a native host: the packet goes at once to the relay, or draws a test, and the client doesn't speak to where that
-- goes.
use Rattle.theory_reaching.proofs.Words.{KeepsToNatives, Reach, RelayNode, Relayed, Some, SomeBrings, address_at, and_parts, ap, asks_at, by_lines, false, first_line, first_of_each, inl, inr, is_fresh, is_on, is_trusted_at, known_by, late_native_lines, native, not, now, opening_native_lines, refl, relay_at, relayed, speaks_to, to_native_row, true, ◌&&◌, ◌≡◌, ◌⊎◌}
use Rattle.theory_reaching.specs.declared.word.Reach.TheVariants as word
use Rattle.theory_reaching.proofs.Pairs.{of_client_and_native}
use Rattle.theory_reaching.proofs.Tests.{elsewhere, failed, held, never}
use Rattle.theory_reaching.proofs.WordTests.{is_moved}
use Rattle.theory_reaching.proofs.strays.MovedTest.{of_tests}
use Rattle.theory_reaching.proofs.strays.MovedWords.{to_natives}

-- WHAT THE LINES SAY

-- the host is fresh, trusted at its relay, and the client doesn't speak to that; or the host isn't fresh, and the client doesn't speak to
-- its server
record GoesAway (a : Relayed) : Type 0 where
  on : a.on ≡ true
  gone : ((a.fresh ≡ true) × (a.trusted ≡ true) × (a.speaks ≡ false)) ⊎ ((a.fresh ≡ false) × (a.speaks_server ≡ false))

-- no other line has the word
none_further : (a : Relayed) → is_moved (first_line (late_native_lines a) word.Within6) ≡ false
none_further a = first_of_each (λ (r : Reach). is_moved r ≡ false) (late_native_lines a) word.Within6
    (refl, (refl, (refl, (refl, (refl, (refl, (refl, (refl, tt)))))))) refl

goes_away : (a : Relayed) → is_moved (to_native_row a) ≡ true → GoesAway a
goes_away a = by_lines (λ (r : Reach). is_moved r ≡ true → GoesAway a) (opening_native_lines a) (first_line (late_native_lines a) word.Within6) (
  (λ _ e. elsewhere e),
  (λ on. (
    (λ moved _. at_once on moved),
    (λ _. (
      (λ moved _. tested on moved),
      (λ _ e. never (is_moved (first_line (late_native_lines a) word.Within6)) e (none_further a)),
    )),
  )),
) where
  at_once : not a.on ≡ false → (a.fresh && (a.trusted && not a.speaks)) ≡ true → GoesAway a
  at_once on moved =
      let first = and_parts a.fresh (a.trusted && not a.speaks) moved in
      let second = and_parts a.trusted (not a.speaks) first.1 in
      record { on = held a.on on; gone = inl (first.0, second.0, failed a.speaks second.1) }

  tested : not a.on ≡ false → (not a.fresh && not a.speaks_server) ≡ true → GoesAway a
  tested on moved =
      let both = and_parts (not a.fresh) (not a.speaks_server) moved in
      record { on = held a.on on; gone = inr (failed a.fresh both.0, failed a.speaks_server both.1) }

-- THE WORD

pub moved_is_kept : KeepsToNatives word.Moved
unfolding relayed
moved_is_kept lab H is chained q later n m c h x g at to said sent fresh =
    let s = of_client_and_native (record { lab = lab; H = H; n = n; m = m; said = word.Moved }) (λ a. GoesAway a) (λ a w. goes_away a (ap is_moved w)) c h at to said in
    by s.0 s.1 s.2.on s.2.gone where
      by : (r : RelayNode) → relay_at lab.topology h.relay ≡ Some r → is_on lab H n c ≡ true
          → ((is_fresh (now H) (known_by H n h.six) ≡ true) × (is_trusted_at r.at (known_by H n h.six) ≡ true) × (speaks_to lab H c (address_at lab H n) r.at ≡ false))
          ⊎ ((is_fresh (now H) (known_by H n h.six) ≡ false) × (speaks_to lab H c (address_at lab H n) (asks_at lab c) ≡ false))
          → SomeBrings m (native h) x later → ⊥
      by r through on (inl straight) = to_natives lab H q later n m c h r x is g at to through on straight.0 straight.1 straight.2 sent fresh
      by r through on (inr test) = of_tests lab H q later n m c h x is g at to on test.0 test.1 sent fresh
