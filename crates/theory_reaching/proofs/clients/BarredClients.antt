-- `barred` between clients: the sender may not send a bubble yet, and sends nothing; or the receiver may not answer one yet, and none comes to
-- it straight.
use Rattle.theory_reaching.proofs.Words.{BarredSenderIsSilent, ClientNode, Full, Grown, Handing, Ip6, IsSentNext, KeepsBetweenClients, Lab, List, Reach, SomeBrings, TwoClients, address_at, and_parts, and_right, ap, between_clients_row, by_lines, client, early_client_lines, embedded, false, has_cone, host_hands, inl, inr, is_barred, is_fresh, is_led_to, is_settled, is_teredo, known_by, not, now, or_parts, refl, sound_first, subst, true, two_clients, ℕ, ◌||◌, ◌∷◌, ◌≡◌, ◌⊎◌}
use Rattle.theory_settled.proofs.Earlier.{earlier}
use Rattle.theory_reaching.specs.declared.word.Reach.TheVariants as word
use Rattle.theory_reaching.proofs.clients.BarredReceiver.{none_come}
use Rattle.theory_reaching.proofs.clients.BothSettled.{AreBoth}
use Rattle.theory_reaching.proofs.from_native.NoneFollow.{IsClosedOff, nothing_made, none_follow}
use Rattle.theory_reaching.proofs.Pairs.{of_clients}
use Rattle.theory_reaching.proofs.clients.LateLines.{past_opening, late_word, never_later}
use Rattle.theory_reaching.proofs.Tests.{elsewhere, either, failed, held}
use Rattle.theory_reaching.proofs.WordTests.{is_barred_word}

-- WHAT THE LINES SAY

-- the receiver is neither fresh nor cone, and the sender is barred for it
record IsHeldBack (a : TwoClients) : Type 0 where
  distant : (a.fresh || a.to_cone) ≡ false
  barred : a.barred ≡ true

-- it is barred for the sender, who is settled as it is
record IsUnanswered (a : TwoClients) : Type 0 where
  settled : a.settled ≡ true
  apart : a.one_nat ≡ false
  distant : (a.fresh || a.to_cone) ≡ false
  barred : a.barred_there ≡ true

held_back : (a : TwoClients) → is_barred_word (between_clients_row a) ≡ true → IsHeldBack a ⊎ IsUnanswered a
held_back a = past_opening (λ (r : Reach). is_barred_word r ≡ true → IsHeldBack a ⊎ IsUnanswered a) a (λ e. elsewhere e) (λ e. elsewhere e) (λ e. elsewhere e) (λ e. elsewhere e) (by_lines
    (λ (r : Reach). is_barred_word r ≡ true → IsHeldBack a ⊎ IsUnanswered a) (early_client_lines a)
    (late_word a) (
      (λ _ e. elsewhere e),
      (λ settled. (
        (λ _ e. elsewhere e),
        (λ apart. (
          (λ _ e. elsewhere e),
          (λ _. (
            (λ _ e. elsewhere e),
            (λ _. (
              (λ _ e. elsewhere e),
              (λ distant. (
                (λ barred _. inl (record { distant = distant; barred = barred })),
                (λ _. (
                  (λ _ e. elsewhere e),
                  (λ _. (
                    (λ there _. inr (record { settled = held a.settled settled; apart = apart; distant = distant; barred = there })),
                    (λ _ e. never_later is_barred_word a (refl, (refl, (refl, (refl, (refl, (refl, (refl, (refl, (refl, (refl, tt)))))))))) refl e),
                  )),
                )),
              )),
            )),
          )),
        )),
      )),
    ))

-- THE SENDER

-- of a packet for a client that is neither fresh nor cone, for which it is barred, it makes nothing
module _ (lab : Lab) (H : List Full) (q : Full) (n m : ℕ) (c d : ClientNode) (x : List ℕ) (taken : Handing lab H q n (client c) x)
    (sent : IsSentNext lab H q n m (client c) x) where
  closed_off : (is_fresh (now H) (known_by H n (address_at lab H m)) || has_cone (address_at lab H m)) ≡ false
      → is_barred (now H) (known_by H n (address_at lab H m)) ≡ true → IsClosedOff lab H q n c (address_at lab H m) x
  closed_off distant barred =
      let other = address_at lab H m in
      let parts = or_parts (is_fresh (now H) (known_by H n other)) (has_cone other) distant in
      record {
        handed = sent.handed;
        made = taken.did.made;
        stale = parts.0;
        plain = and_right (is_teredo other) (has_cone other) parts.1;
        closed = inl barred;
      }

distant_so : (a : TwoClients) → IsHeldBack a ⊎ IsUnanswered a → (a.fresh || a.to_cone) ≡ false
distant_so a (inl s) = s.distant
distant_so a (inr s) = s.distant

pub barred_sender_is_silent : BarredSenderIsSilent
unfolding two_clients
barred_sender_is_silent lab H q n m c d x g at to said barred sent =
    let w = of_clients (record { lab = lab; H = H; n = n; m = m; said = word.Barred }) (λ a. IsHeldBack a ⊎ IsUnanswered a) (λ a w. held_back a (ap is_barred_word w)) c d at to said in
    let taken = host_hands H at g.0 sent.handed in
    nothing_made lab H q n c (address_at lab H m) x
    (closed_off lab H q n m c d x taken sent (distant_so (two_clients lab H n m c d) w) barred)

-- THE WORD

pub barred_is_kept : KeepsBetweenClients word.Barred
unfolding two_clients
barred_is_kept lab H is chained q later n m c d x g at to said sent fresh =
    two (of_clients (record { lab = lab; H = H; n = n; m = m; said = word.Barred }) (λ a. IsHeldBack a ⊎ IsUnanswered a) (λ a w. held_back a (ap is_barred_word w)) c d at to said) where
      there : Grown lab (q ∷ H)
      there = earlier lab later (q ∷ H) g

      other : Ip6
      other = address_at lab H m

      taken : Handing lab H q n (client c) x
      taken = host_hands H at there.0 sent.handed

      two : IsHeldBack (two_clients lab H n m c d) ⊎ IsUnanswered (two_clients lab H n m c d) → SomeBrings m (client d) x later → ⊥
      two (inl s) = subst (SomeBrings m (client d) x) (none_follow lab H q n c other x (closed_off lab H q n m c d x taken sent s.distant s.barred)
          later g fresh)
      two (inr s) =
          let own = address_at lab H n in
          let led = is_led_to lab H (embedded own) (embedded other) m in
          let distant = or_parts (is_fresh (now H) (known_by H n other)) (has_cone other) s.distant in
          let both = and_parts (is_settled lab H n c) (is_settled lab H m d) s.settled in
          let parts = and_parts (is_barred (now H) (known_by H m own)) (has_cone own || not led) s.barred in
          let are : AreBoth lab H q n m c d x = record {
            rules = is;
            chained = chained;
            grown = there;
            at = at;
            to = to;
            sender = both.0;
            receiver = both.1;
            apart = s.apart;
            handed = sent.handed;
            sound = sound_first q later fresh;
          } in
          none_come (record { lab = lab; H = H; q = q; n = n; m = m; c = c; d = d; x = x; are = are }) (record {
            stale = distant.0;
            plain = distant.1;
            barred = parts.0;
            apart = by (either (has_cone own) (not led) parts.1);
          }) later g fresh
        where
          by : (has_cone (address_at lab H n) ≡ true)
              ⊎ (not (is_led_to lab H (embedded (address_at lab H n)) (embedded (address_at lab H m)) m) ≡ true)
              → (has_cone (address_at lab H n) ≡ true)
              ⊎ (is_led_to lab H (embedded (address_at lab H n)) (embedded (address_at lab H m)) m ≡ false)
          by (inl cone) = inl cone
          by (inr shut) = inr (failed (is_led_to lab H (embedded (address_at lab H n)) (embedded (address_at lab H m)) m) shut)
