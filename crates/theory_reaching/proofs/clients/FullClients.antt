-- `full` between clients: the receiver has no room for the sender and hears nothing of it, or the sender has none for the receiver and
-- sends nothing.
use Rattle.theory_reaching.proofs.Words.{Did, Grown, KeepsBetweenClients, Reach, SomeBrings, TwoClients, address_at, and_parts, and_right, ap, between_clients_row, by_lines, client, early_client_lines, entry_of, false, has_cone, inl, inr, is_fresh, is_settled, is_teredo, known_by, no_ep, now, or_parts, refl, sound_first, subst, true, two_clients, ◌||◌, ◌∷◌, ◌≡◌, ◌⊎◌}
use Rattle.teredo_node.specs.Journal.{given}
use Rattle.theory_settled.proofs.Earlier.{earlier}
use Rattle.theory_first_packets.proofs.HandedIn as handed_in
use Rattle.theory_reaching.specs.declared.word.Reach.TheVariants as word
use Rattle.theory_reaching.proofs.clients.LateLines.{past_opening, late_word, never_later}
use Rattle.theory_reaching.proofs.Tests.{elsewhere, held, failed}
use Rattle.theory_reaching.proofs.WordTests.{is_full_word}
use Rattle.theory_reaching.proofs.Pairs.{of_clients}
use Rattle.theory_reaching.proofs.clients.BothSettled.{AreBoth}
use Rattle.theory_reaching.proofs.clients.FullSchedule.{none_come}
use Rattle.theory_reaching.proofs.from_native.NoneFollow.{none_follow}

-- WHAT THE LINES SAY

-- the receiver has no room for the sender
record IsDeaf (a : TwoClients) : Type 0 where
  settled : a.settled ≡ true
  apart : a.one_nat ≡ false
  unheard : a.heard ≡ false

-- the receiver is neither fresh nor cone, and the sender has no room for it
record IsCrowded (a : TwoClients) : Type 0 where
  distant : (a.fresh || a.to_cone) ≡ false
  crowded : a.room ≡ false

somewhere_full : (a : TwoClients) → is_full_word (between_clients_row a) ≡ true → IsDeaf a ⊎ IsCrowded a
somewhere_full a = past_opening (λ (r : Reach). is_full_word r ≡ true → IsDeaf a ⊎ IsCrowded a) a (λ e. elsewhere e) (λ e. elsewhere e) (λ e. elsewhere e) (λ e. elsewhere e) (by_lines
    (λ (r : Reach). is_full_word r ≡ true → IsDeaf a ⊎ IsCrowded a) (early_client_lines a)
    (late_word a) (
      (λ _ e. elsewhere e),
      (λ settled. (
        (λ _ e. elsewhere e),
        (λ apart. (
          (λ deaf _. inl (record { settled = held a.settled settled; apart = apart; unheard = failed a.heard deaf })),
          (λ _. (
            (λ _ e. elsewhere e),
            (λ _. (
              (λ _ e. elsewhere e),
              (λ distant. (
                (λ _ e. elsewhere e),
                (λ _. (
                  (λ crowded _. inr (record { distant = distant; crowded = failed a.room crowded })),
                  (λ _. ((λ _ e. elsewhere e), (λ _ e. never_later is_full_word a (refl, (refl, (refl, (refl, (refl, (refl, (refl, (refl, (refl, (refl, tt)))))))))) refl e))),
                )),
              )),
            )),
          )),
        )),
      )),
    ))

-- THE WORD

pub full_is_kept : KeepsBetweenClients word.Full
unfolding two_clients
full_is_kept lab H is chained q later n m c d x g at to said sent fresh =
    two (of_clients (record { lab = lab; H = H; n = n; m = m; said = word.Full }) (λ a. IsDeaf a ⊎ IsCrowded a) (λ a w. somewhere_full a (ap is_full_word w)) c d at to said) where
      there : Grown lab (q ∷ H)
      there = earlier lab later (q ∷ H) g

      did : Did lab H q n (client c) (entry_of lab H (now H) n no_ep (given x) (client c))
      did = handed_in.did lab H q n (client c) x
          (record { rules = is; grown = there; there = at; own = address_at lab H n; other = address_at lab H m; handed = sent.handed })

      two : IsDeaf (two_clients lab H n m c d) ⊎ IsCrowded (two_clients lab H n m c d) → SomeBrings m (client d) x later → ⊥
      two (inl deaf) =
          let both = and_parts (is_settled lab H n c) (is_settled lab H m d) deaf.settled in
          let are : AreBoth lab H q n m c d x = record {
            rules = is;
            chained = chained;
            grown = there;
            at = at;
            to = to;
            sender = both.0;
            receiver = both.1;
            apart = deaf.apart;
            handed = sent.handed;
            sound = sound_first q later fresh;
          } in
          none_come (record { lab = lab; H = H; q = q; n = n; m = m; c = c; d = d; x = x; are = are }) deaf.unheard later g fresh
      two (inr crowded) =
          let other = address_at lab H m in
          let distant = or_parts (is_fresh (now H) (known_by H n other)) (has_cone other) crowded.distant in
          subst (SomeBrings m (client d) x) (none_follow lab H q n c other x (record {
            handed = sent.handed;
            made = did.made;
            stale = distant.0;
            plain = and_right (is_teredo other) (has_cone other) distant.1;
            closed = inr crowded.crowded;
          }) later g fresh)
