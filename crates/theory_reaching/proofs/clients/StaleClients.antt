-- `stale` between clients: the packet goes at once to where the receiver was heard, and its NATs let nothing in there.
use Rattle.theory_reaching.proofs.Words.{KeepsBetweenClients, Reach, SomeBrings, TwoClients, address_at, and_parts, ap, between_clients_row, by_lines, client, early_client_lines, false, has_cone, is_settled, not, or_left, refl, sound_first, true, two_clients, ◌&&◌, ◌∷◌, ◌≡◌}
use Rattle.theory_settled.proofs.Earlier.{earlier}
use Rattle.theory_reaching.specs.declared.word.Reach.TheVariants as word
use Rattle.theory_reaching.proofs.clients.LateLines.{past_opening, late_word, never_later}
use Rattle.theory_reaching.proofs.Tests.{elsewhere, held, failed}
use Rattle.theory_reaching.proofs.WordTests.{is_stale}
use Rattle.theory_reaching.proofs.Pairs.{of_clients}
use Rattle.theory_reaching.proofs.clients.BothSettled.{AreBoth}
use Rattle.theory_reaching.proofs.clients.ShutOut.{none_come}

-- WHAT THE LINES SAY

-- the receiver is fresh, and what comes to it isn't let in
record IsStale (a : TwoClients) : Type 0 where
  settled : a.settled ≡ true
  apart : a.one_nat ≡ false
  shut : (a.fresh && not a.let_in) ≡ true

is_shut : (a : TwoClients) → is_stale (between_clients_row a) ≡ true → IsStale a
is_shut a = past_opening (λ (r : Reach). is_stale r ≡ true → IsStale a) a (λ e. elsewhere e) (λ e. elsewhere e) (λ e. elsewhere e) (λ e. elsewhere e) (by_lines (λ (r : Reach). is_stale r ≡ true → IsStale a) (early_client_lines a)
    (late_word a) (
      (λ _ e. elsewhere e),
      (λ settled. (
        (λ _ e. elsewhere e),
        (λ apart. (
          (λ _ e. elsewhere e),
          (λ _. (
            (λ shut _. record { settled = held a.settled settled; apart = apart; shut = shut }),
            (λ _. (
              (λ _ e. elsewhere e),
              (λ _. (
                (λ _ e. elsewhere e),
                (λ _. ((λ _ e. elsewhere e), (λ _. ((λ _ e. elsewhere e), (λ _ e. never_later is_stale a (refl, (refl, (refl, (refl, (refl, (refl, (refl, (refl, (refl, (refl, tt)))))))))) refl e))))),
              )),
            )),
          )),
        )),
      )),
    ))

-- THE WORD

pub stale_is_kept : KeepsBetweenClients word.Stale
unfolding two_clients
stale_is_kept lab H is chained q later n m c d x g at to said sent fresh =
    two (of_clients (record { lab = lab; H = H; n = n; m = m; said = word.Stale }) IsStale (λ a w. is_shut a (ap is_stale w)) c d at to said) where
      two : IsStale (two_clients lab H n m c d) → SomeBrings m (client d) x later → ⊥
      two s =
          let two_parts = and_parts (two_clients lab H n m c d).fresh (not (two_clients lab H n m c d).let_in) s.shut in
          let both = and_parts (is_settled lab H n c) (is_settled lab H m d) s.settled in
          let are : AreBoth lab H q n m c d x = record {
            rules = is;
            chained = chained;
            grown = earlier lab later (q ∷ H) g;
            at = at;
            to = to;
            sender = both.0;
            receiver = both.1;
            apart = s.apart;
            handed = sent.handed;
            sound = sound_first q later fresh;
          } in
          none_come (record { lab = lab; H = H; q = q; n = n; m = m; c = c; d = d; x = x; are = are })
          (or_left (two_clients lab H n m c d).fresh (has_cone (address_at lab H m)) two_parts.0)
          (failed (two_clients lab H n m c d).let_in two_parts.1) later g fresh
