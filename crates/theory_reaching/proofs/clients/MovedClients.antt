-- `moved` between clients: the packet goes at once, and its sender doesn't speak to where it goes; or the bubbles before it leave from elsewhere
-- than its sender's address says.
use Rattle.theory_reaching.proofs.Words.{KeepsBetweenClients, Reach, SomeBrings, TwoClients, address_at, and_parts, ap, asks_at, between_clients_row, bubbles_stray, by_lines, client, early_client_lines, embedded, false, first_line, first_of_each, has_cone, inl, inr, is_fresh, is_on, known_by, late_client_lines, not, now, opening_client_lines, refl, speaks_to, true, two_clients, ◌&&◌, ◌++◌, ◌||◌, ◌≡◌, ◌⊎◌}
use Rattle.theory_reaching.specs.declared.word.Reach.TheVariants as word
use Rattle.theory_reaching.proofs.Pairs.{of_clients}
use Rattle.theory_reaching.proofs.Tests.{elsewhere, failed, held, never}
use Rattle.theory_reaching.proofs.WordTests.{is_moved}
use Rattle.theory_reaching.proofs.strays.MovedBubbles.{of_bubbling}
use Rattle.theory_reaching.proofs.strays.MovedWords.{between_clients}

-- WHAT THE LINES SAY

-- the packet goes at once, and the sender doesn't speak to where; or bubbles go first, which stray
record GoesAway (a : TwoClients) : Type 0 where
  on : a.on ≡ true
  there : a.there ≡ true
  gone : (((a.fresh || a.to_cone) ≡ true) × (a.speaks ≡ false)) ⊎ (((a.fresh || a.to_cone) ≡ false) × (a.bubbles_astray ≡ true))

-- no other line has the word
none_further : (a : TwoClients) → is_moved (first_line (early_client_lines a ++ late_client_lines a) word.Within5) ≡ false
none_further a = first_of_each (λ (r : Reach). is_moved r ≡ false) (early_client_lines a ++ late_client_lines a) word.Within5
    (refl, (refl, (refl, (refl, (refl, (refl, (refl, (refl, (refl, (refl, (refl, (refl, (refl, (refl, (refl, (refl, (refl, (refl, tt))))))))))))))))))
    refl

goes_away : (a : TwoClients) → is_moved (between_clients_row a) ≡ true → GoesAway a
goes_away a = by_lines (λ (r : Reach). is_moved r ≡ true → GoesAway a) (opening_client_lines a)
    (first_line (early_client_lines a ++ late_client_lines a) word.Within5) (
      (λ _ e. elsewhere e),
      (λ on. (
        (λ _ e. elsewhere e),
        (λ there. (
          (λ _ e. elsewhere e),
          (λ _. (
            (λ moved _. at_once on there moved),
            (λ _. (
              (λ strays _. bubbles on there strays),
              (λ _ e. never (is_moved (first_line (early_client_lines a ++ late_client_lines a) word.Within5)) e (none_further a)),
            )),
          )),
        )),
      )),
    ) where
      at_once : not a.on ≡ false → not a.there ≡ false → ((a.fresh || a.to_cone) && (not a.speaks && (not a.one_nat && a.heard))) ≡ true → GoesAway a
      at_once on there moved =
          let first = and_parts (a.fresh || a.to_cone) (not a.speaks && (not a.one_nat && a.heard)) moved in
          let second = and_parts (not a.speaks) (not a.one_nat && a.heard) first.1 in
          record { on = held a.on on; there = held a.there there; gone = inl (first.0, failed a.speaks second.0) }

      bubbles : not a.on ≡ false → not a.there ≡ false → (not (a.fresh || a.to_cone) && (a.bubbles_astray && (not a.one_nat && (a.heard && (not a.barred && a.room))))) ≡ true → GoesAway a
      bubbles on there strays =
          let first = and_parts (not (a.fresh || a.to_cone)) (a.bubbles_astray && (not a.one_nat && (a.heard && (not a.barred && a.room)))) strays in
          let second = and_parts a.bubbles_astray (not a.one_nat && (a.heard && (not a.barred && a.room))) first.1 in
          record { on = held a.on on; there = held a.there there; gone = inr (failed (a.fresh || a.to_cone) first.0, second.0) }

-- THE WORD

pub moved_is_kept : KeepsBetweenClients word.Moved
unfolding two_clients
moved_is_kept lab H is chained q later n m c d x g at to said sent fresh =
    let s = of_clients (record { lab = lab; H = H; n = n; m = m; said = word.Moved }) (λ a. GoesAway a) (λ a w. goes_away a (ap is_moved w)) c d at to said in
    by s.on s.there s.gone where
      by : is_on lab H n c ≡ true → is_on lab H m d ≡ true
          → (((is_fresh (now H) (known_by H n (address_at lab H m)) || has_cone (address_at lab H m)) ≡ true) × (speaks_to lab H c (address_at lab H n) (embedded (address_at lab H m)) ≡ false))
          ⊎ (((is_fresh (now H) (known_by H n (address_at lab H m)) || has_cone (address_at lab H m)) ≡ false) × (bubbles_stray lab H c (address_at lab H n) (embedded (address_at lab H m)) (asks_at lab d) ≡ true))
          → SomeBrings m (client d) x later → ⊥
      by on there (inl straight) = between_clients lab H q later n m c d x is g at to on there straight.0 straight.1 sent fresh
      by on there (inr strays) = of_bubbling lab H q later n m c d x is g at to on there strays.0 strays.1 sent fresh
