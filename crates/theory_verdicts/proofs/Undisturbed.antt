-- Undisturbed clients: until something is sent nothing is known, and afterwards the NAT is open.
use Rattle.theory_verdicts.proofs.Words.{AddressStays, Bool, ClientNode, Entry, Ep, Full, Grown, IsActOf, Journal, Lab, List, Out, [], and_parts, ap, are_honest_for, began_seen, client, client_settings, cond, each_is_later, expected, false, first_phase, has_sent, is_honest_event_for, is_loss_of, is_open_at, is_out_of, is_seen, journal, list_any, nat_entries, new_journal, not, or_parts, qualification, refl, same_ep, same_ep-self, standing, starts, subst, sym, true, turn_of, was_lost, was_shut, with_entry, ℕ, ◌&&◌, ◌||◌, ◌∙◌, ◌∷◌, ◌≡◌}
use Rattle.theory_verdicts.proofs.Members.{none_has}
use Rattle.theory_verdicts.proofs.Opened.{IsUnseen, still_unseen}
use Rattle.theory_verdicts.proofs.Adverts.{is_told}
use Rattle.theory_verdicts.proofs.SoundAdverts.{was_asked}
use Rattle.theory_verdicts.proofs.Entries.{phase_next, is_first, first_is_early}
use Rattle.theory_verdicts.proofs.LetIn.{view_of, Place}
use Rattle.theory_verdicts.proofs.Scenes.{IsSound, Scene}
use Rattle.theory_verdicts.proofs.Steps.{past_before, is_told_at}
use Rattle.theory_verdicts.proofs.Stays.{still_stays}
use Rattle.theory_verdicts.proofs.Begins.{sound_at_start, unseen_of, Concerns, own, others, concerns, goes_on}
use Rattle.theory_verdicts.proofs.Journals.{fresh_journal, starts_in, stays_at_start}
use Rattle.theory_verdicts.proofs.Phases.{is_early, is_resting, rests_late, still_early}
use Rattle.theory_verdicts.proofs.Kept.{open_of}

-- until the client sent something, nothing of it counts and nothing came
pub record IsUntried (lab : Lab) (H : List Full) (n : ℕ) (c : ClientNode) : Type 0 where
  pub unseen : IsUnseen (view_of lab H c)
  pub early : is_early (standing lab H n c).phase ≡ true

-- so it is at a start
untried_at_start : (lab : Lab) (H : List Full) (n m : ℕ) (c : ClientNode) → journal n H ≡ new_journal m → IsUnseen (view_of lab H c) → IsUntried lab H n c
untried_at_start lab H n m c fresh unseen = record {
  unseen = unseen;
  early = ap is_early (starts_in lab H n m c fresh) ∙ first_is_early c.cone_try (first_phase (client_settings lab.topology c))
      (is_first (client_settings lab.topology c));
}

module _ (scene : Scene) (off : starts scene.place.n scene.r ≡ false) where
  open scene use {place, H, r}
  open place use {lab, n, c}

  -- a record with no datagram of the client leaves it so
  untried : list_any (is_out_of c.inside) (nat_entries lab c.nat r) ≡ false → IsUntried lab H n c → IsUntried lab (r ∷ H) n c
  untried none u = record { unseen = unseen; early = by (concerns scene off) } where
    unseen : IsUnseen (view_of lab (r ∷ H) c)
    unseen = still_unseen (view_of lab H c) (nat_entries lab c.nat r) r.moment (each_is_later lab H r scene.grown)
        (λ d new left. none_has (is_out_of c.inside) (nat_entries lab c.nat r) (Out d) none new
        (ap (λ (e : Ep). same_ep e c.inside) left ∙ same_ep-self c.inside)) u.unseen

    of_turn : (e : Entry) → IsActOf lab H r n (client c) e → (b : Bool) → is_told (turn_of e) ≡ b
        → is_early (qualification (client_settings lab.topology c) (with_entry (journal n H) e)).phase ≡ true
    of_turn e act true h =
        let t = is_told_at scene act h in
        let a = was_asked (view_of lab H c) (expected (client_settings lab.topology c) (standing lab H n c)) t.dst
        (past_before scene) t.let_in in
        absurd (u.unseen a.datagram a.counts a.left)
    of_turn e act false h = ap is_early (phase_next (client_settings lab.topology c) (journal n H) e)
        ∙ still_early (turn_of e) (standing lab H n c).phase h u.early

    by : Concerns lab H r n c → is_early (standing lab (r ∷ H) n c).phase ≡ true
    by (own e act) = subst (λ (j : Journal). is_early (qualification (client_settings lab.topology c) j).phase ≡ true) (sym act.later)
        (of_turn e act (is_told (turn_of e)) refl)
    by (others same nothing) = subst (λ (j : Journal). is_early (qualification (client_settings lab.topology c) j).phase ≡ true) (sym same) u.early

-- what holds of an undisturbed client; its address stayed
pub record IsFine (lab : Lab) (H : List Full) (n : ℕ) (c : ClientNode) : Type 0 where
  pub sound : IsSound lab H n c
  pub untried : has_sent lab H n c ≡ false → IsUntried lab H n c
  pub stays : AddressStays H n

module _ (place : Place) where
  open place use {lab, n, c}

  -- the NAT let a datagram of the client out
  abbrev HasSent : List Full → Bool
  HasSent before = has_sent lab before n c

  -- one record more
  step : (H : List Full) {r : Full} → Grown lab (r ∷ H) → are_honest_for lab.topology c H ≡ true → starts n r ≡ false → IsFine lab H n c
      → (list_any (is_loss_of c.inside) (nat_entries lab c.nat r)) ≡ false → (has_sent lab H n c && not (is_open_at lab H r.moment c)) ≡ false
      → IsFine lab (r ∷ H) n c
  step H {r} g honest off fine spared shut = record {
    sound = goes_on scene off (record {
      spared = spared;
      server_open = λ rests. open_of (has_sent lab H n c) (is_open_at lab H r.moment c) (sent rests (has_sent lab H n c) refl) shut;
    }) fine.sound;
    untried = λ none. let both = or_parts (list_any (is_out_of c.inside) (nat_entries lab c.nat r)) (has_sent lab H n c)
        (ap (λ (b : Bool). cond b false (list_any (is_out_of c.inside) (nat_entries lab c.nat r) || has_sent lab H n c)) (sym off) ∙ none) in
        untried scene off both.0 (fine.untried both.1);
    stays = still_stays scene off fine.sound fine.stays;
  } where
    scene : Scene
    scene = record { place = place; H = H; r = r; grown = g; honest = honest }

    sent : is_resting (standing lab H n c).phase ≡ true → (b : Bool) → has_sent lab H n c ≡ b → has_sent lab H n c ≡ true
    sent rests true e = e
    sent rests false e = absurd (rests_late (standing lab H n c).phase rests (fine.untried e).early)

  -- a start
  start : (H : List Full) (m : ℕ) → journal n H ≡ new_journal m → IsUnseen (view_of lab H c) → IsFine lab H n c
  start H m fresh unseen = record {
    sound = sound_at_start lab H n m c fresh (λ _. unseen);
    untried = λ _. untried_at_start lab H n m c fresh unseen;
    stays = stays_at_start H n m fresh;
  }

  -- a whole history
  pub fine : (H : List Full) → Grown lab H → are_honest_for lab.topology c H ≡ true → began_seen lab H n c ≡ false → was_lost lab H n c ≡ false
      → was_shut HasSent lab H n c ≡ false → IsFine lab H n c
  fine [] g honest began lost shut = start [] 0 refl (λ d counts left. counts)
  fine (r ∷ H) g honest began lost shut = by (starts n r) refl began lost shut (λ b l s. fine H g.1 before b l s) where
    before : are_honest_for lab.topology c H ≡ true
    before = (and_parts (is_honest_event_for lab.topology c r.asked) (are_honest_for lab.topology c H) honest).1

    by : (b : Bool) → starts n r ≡ b → cond b (is_seen lab (r ∷ H) c) (began_seen lab H n c) ≡ false
        → cond b false (list_any (is_loss_of c.inside) (nat_entries lab c.nat r) || was_lost lab H n c) ≡ false
        → cond b false ((has_sent lab H n c && not (is_open_at lab H r.moment c)) || was_shut HasSent lab H n c) ≡ false
        → (began_seen lab H n c ≡ false → was_lost lab H n c ≡ false → was_shut HasSent lab H n c ≡ false → IsFine lab H n c) → IsFine lab (r ∷ H) n c
    by true on b l s ih = start (r ∷ H) r.moment (fresh_journal H r n on) (unseen_of lab (r ∷ H) c b)
    by false off b l s ih =
        let lost_parts = or_parts (list_any (is_loss_of c.inside) (nat_entries lab c.nat r)) (was_lost lab H n c) l in
        let shut_parts = or_parts (has_sent lab H n c && not (is_open_at lab H r.moment c)) (was_shut HasSent lab H n c) s in
        step H g before off
        (ih b lost_parts.1 shut_parts.1) lost_parts.0 shut_parts.0
