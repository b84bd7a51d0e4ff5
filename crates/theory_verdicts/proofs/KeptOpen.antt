-- Clients without the cone phase: the NAT is open from the first answer on.
use Rattle.theory_verdicts.proofs.Words.{AddressStays, Bool, ClientNode, Cone, Entry, Full, Grown, IsActOf, Journal, Lab, List, Phase, Some, [], and_from, and_parts, answers, ap, are_honest_for, arith, begins, client, client_settings, cond, false, false≢true, first_phase, has_sent, is_honest_event_for, is_loss_of, is_node, is_open_at, is_same_origin, journal, list_any, nat_entries, nat_tests, new_journal, not, or_left, or_parts, or_right, origin_before, qualification, refl, standing, starts, subst, sym, true, turn_of, unwrap_or, was_answered, was_lost, was_shut, with_entry, ℕ, ◌&&◌, ◌||◌, ◌∙◌, ◌∷◌, ◌≡◌}
use Rattle.theory_verdicts.proofs.Adverts.{is_told}
use Rattle.theory_verdicts.proofs.Sound.{IsSoundIn}
use Rattle.theory_verdicts.proofs.Entries.{phase_next, is_first, first_rests}
use Rattle.theory_verdicts.proofs.LetIn.{view_of, Place}
use Rattle.theory_verdicts.proofs.Scenes.{IsSound, Scene}
use Rattle.theory_verdicts.proofs.Steps.{is_told_at}
use Rattle.theory_verdicts.proofs.Stays.{still_stays}
use Rattle.theory_verdicts.proofs.Begins.{sound_at_start, Concerns, own, others, concerns, goes_on}
use Rattle.theory_verdicts.proofs.Journals.{fresh_journal, starts_in, stays_at_start}
use Rattle.theory_verdicts.proofs.Phases.{Rests, answered_now, is_resting, not_resting, rested, told_rests, untold_rests}
use Rattle.theory_verdicts.proofs.Kept.{open_of}

-- what holds of a client without the cone phase whose NAT was kept open
pub record IsFirm (lab : Lab) (H : List Full) (n : ℕ) (c : ClientNode) : Type 0 where
  pub sound : IsSound lab H n c
  pub answered : is_resting (standing lab H n c).phase ≡ true → was_answered H n ≡ true
  pub stays : AddressStays H n

module _ (scene : Scene) (off : starts scene.place.n scene.r ≡ false)
    (never : scene.place.c.cone_try ≡ false) (firm : IsFirm scene.place.lab scene.H scene.place.n scene.place.c) where
  open scene use {place, H, r}
  open place use {lab, n, c}

  -- a client without the cone phase isn't in it
  no_cone : (standing lab H n c).phase ≡ Cone → ⊥
  no_cone e =
      let is = subst (λ (ph : Phase). IsSoundIn (view_of lab H c) c.cone_try ph (standing lab H n c).kept (standing lab H n c).address) e firm.sound in
      false≢true (sym never ∙ is.0)

  -- the record is the client's
  same_number : (r.node ≡ Some n) → is_node n r.node ≡ true
  same_number at = ap (is_node n) at ∙ grind (arith, nat_tests)

  -- who was answered was
  before : was_answered H n ≡ true → was_answered (r ∷ H) n ≡ true
  before was = ap (λ (b : Bool). cond b false ((is_node n r.node && answers r.entry) || was_answered H n)) off
      ∙ or_right (is_node n r.node && answers r.entry) (was_answered H n) was

  -- after an entry of the client
  of_turn : (e : Entry) → IsActOf lab H r n (client c) e
      → is_resting (qualification (client_settings lab.topology c) (with_entry (journal n H) e)).phase ≡ true → was_answered (r ∷ H) n ≡ true
  of_turn e act rests = by (is_told (turn_of e)) refl where
    after : is_resting (unwrap_or (begins (turn_of e)) (standing lab H n c).phase) ≡ true
    after = ap is_resting (sym (phase_next (client_settings lab.topology c) (journal n H) e)) ∙ rests

    of_rests : Rests (standing lab H n c).phase e.step.fate → was_answered (r ∷ H) n ≡ true
    of_rests (rested was) = before (firm.answered was)
    of_rests (answered_now is) =
        let here : (is_node n r.node && answers r.entry) ≡ true = and_from (is_node n r.node) (answers r.entry) (same_number act.node)
        (ap answers act.entry ∙ is) in
        ap (λ (b : Bool). cond b false ((is_node n r.node && answers r.entry) || was_answered H n)) off
        ∙ or_left (is_node n r.node && answers r.entry) (was_answered H n) here
    of_rests (not_resting none) = absurd (false≢true (sym none ∙ after))

    by : (b : Bool) → is_told (turn_of e) ≡ b → was_answered (r ∷ H) n ≡ true
    by true h =
        let t = is_told_at scene act h in
        of_rests (subst (Rests (standing lab H n c).phase) t.phase
        (told_rests (standing lab H n c).phase (is_same_origin (Some t.dst) (origin_before (standing lab H n c) (standing lab H n c).phase)) no_cone))
    by false h = before (firm.answered (untold_rests (turn_of e) (standing lab H n c).phase h after))

  -- after a record
  pub still_answered : is_resting (standing lab (r ∷ H) n c).phase ≡ true → was_answered (r ∷ H) n ≡ true
  still_answered rests = by (concerns scene off) where
    by : Concerns lab H r n c → was_answered (r ∷ H) n ≡ true
    by (own e act) = of_turn e act (subst (λ (j : Journal). is_resting (qualification (client_settings lab.topology c) j).phase ≡ true) act.later rests)
    by (others same nothing) = before (firm.answered (subst
        (λ (j : Journal). is_resting (qualification (client_settings lab.topology c) j).phase ≡ true) same rests))

module _ (place : Place) (never : place.c.cone_try ≡ false) where
  open place use {lab, n, c}

  abbrev HasBegun : List Full → Bool
  HasBegun before = has_sent lab before n c || was_answered before n

  -- one record more
  step : (H : List Full) {r : Full} → Grown lab (r ∷ H) → are_honest_for lab.topology c H ≡ true → starts n r ≡ false → IsFirm lab H n c
      → list_any (is_loss_of c.inside) (nat_entries lab c.nat r) ≡ false → (HasBegun H && not (is_open_at lab H r.moment c)) ≡ false → IsFirm lab (r ∷ H) n c
  step H {r} g honest off firm spared shut =
      let scene : Scene = record { place = place; H = H; r = r; grown = g; honest = honest } in
      record {
        sound = goes_on scene off (record {
          spared = spared;
          server_open = λ rests. open_of (HasBegun H) (is_open_at lab H r.moment c)
              (or_right (has_sent lab H n c) (was_answered H n) (firm.answered rests)) shut;
        }) firm.sound;
        answered = still_answered scene off never firm;
        stays = still_stays scene off firm.sound firm.stays;
      }

  -- a start
  start : (H : List Full) (m : ℕ) → journal n H ≡ new_journal m → IsFirm lab H n c
  start H m fresh = record {
    sound = sound_at_start lab H n m c fresh (λ tries. absurd (false≢true (sym never ∙ tries)));
    answered = λ rests. absurd (false≢true (sym (ap is_resting (starts_in lab H n m c fresh)
        ∙ first_rests c.cone_try (first_phase (client_settings lab.topology c)) (is_first (client_settings lab.topology c))) ∙ rests));
    stays = stays_at_start H n m fresh;
  }

  -- a whole history
  pub firm : (H : List Full) → Grown lab H → are_honest_for lab.topology c H ≡ true → was_lost lab H n c ≡ false → was_shut HasBegun lab H n c ≡ false
      → IsFirm lab H n c
  firm [] g honest lost shut = start [] 0 refl
  firm (r ∷ H) g honest lost shut = by (starts n r) refl lost shut (λ l s. firm H g.1 earlier l s) where
    earlier : are_honest_for lab.topology c H ≡ true
    earlier = (and_parts (is_honest_event_for lab.topology c r.asked) (are_honest_for lab.topology c H) honest).1

    by : (b : Bool) → starts n r ≡ b
        → cond b false (list_any (is_loss_of c.inside) (nat_entries lab c.nat r) || was_lost lab H n c) ≡ false
        → cond b false ((HasBegun H && not (is_open_at lab H r.moment c)) || was_shut HasBegun lab H n c) ≡ false
        → (was_lost lab H n c ≡ false → was_shut HasBegun lab H n c ≡ false → IsFirm lab H n c) → IsFirm lab (r ∷ H) n c
    by true on l s ih = start (r ∷ H) r.moment (fresh_journal H r n on)
    by false off l s ih =
        let lost_parts = or_parts (list_any (is_loss_of c.inside) (nat_entries lab c.nat r)) (was_lost lab H n c) l in
        let shut_parts = or_parts (HasBegun H && not (is_open_at lab H r.moment c)) (was_shut HasBegun lab H n c) s in
        step H g earlier off
        (ih lost_parts.1 shut_parts.1) lost_parts.0 shut_parts.0
