-- What waits after a datagram came.
use Rattle.td_explain.proofs.Words.{Datagram, Ends, HasKey, IsQueue, KeepsWaits, NothingWaits, Option, ServerSettings, Some, TakesFirst, Waits, [], ap, arith, cases_Bool, cond-false, cond-true, drop, ends_behind, ends_waiting, inl, inr, is_audited, length, link_at, output_at, own_places, same_datagram, same_is, same_itself, slice_get, subst, sym, times, true, waiting_for, ℕ, ◌++◌, ◌∙◌, ◌∷◌, ◌≡◌, ◌≤◌}
use Rattle.td_explain.proofs.OutputLaws.{Held}
use Rattle.td_explain.proofs.CameLaws.{CameAsOften, came_once, came_as_before}
use Rattle.td_explain.proofs.ChainLaws.{at_drop, drop_next, some_left, Front, front, tail, same_queue}

-- ---- nothing was yet

pub none_waits : (s : ServerSettings) (w : Waits) → NothingWaits w → KeepsWaits s w [] []
none_waits s w nothing = record {
  licensed = λ e fits from. omega arith;
  queue = λ e fits from. record { ends_are = nothing.0 e; chained = tt; owned = tt };
  unlinked = λ place far. nothing.1 place;
}

-- ---- a datagram comes

-- as often as before
pub waits_recount : (s : ServerSettings) (w : Waits) (came more held : Held) → CameAsOften s came more
    → KeepsWaits s w came held → KeepsWaits s w more held
waits_recount s w came more held same keeps = record {
  licensed = λ e fits from. let most = keeps.licensed e fits from in omega (arith, most, same e from);
  queue = λ e fits from.
      subst (λ (n : ℕ). IsQueue (output_at s held) (link_at w.links) (ends_waiting w e) e (drop n (own_places s e held))) (sym (same e from))
      (keeps.queue e fits from);
  unlinked = keeps.unlinked;
}

module _ (s : ServerSettings) (old new : Waits) (held : Held) (d : Datagram) (by : ℕ) (fits : HasKey d) (from : is_audited s d.src ≡ true)
    (keeps : KeepsWaits s old held held) (t : TakesFirst old new d by) where
  first : Front (output_at s held) (link_at old.links) t.had d (waiting_for s d held held)
  first = front (output_at s held) (link_at old.links) t.had d (waiting_for s d held held)
      (subst (λ (o : Option Ends). IsQueue (output_at s held) (link_at old.links) o d (waiting_for s d held held)) t.had_is (keeps.queue d fits from))

  -- the place licenses the datagram
  pub taken_is : slice_get (own_places s d held) (times d held) ≡ Some by
  taken_is = at_drop (times d held) (own_places s d held) t.had.first first.more first.queue_is
      ∙ ap (λ (n : ℕ). let o : Option ℕ = Some n in o) t.first_is

  links_are : link_at new.links ≡ link_at old.links
  links_are = ap link_at t.links_stay

  here : IsQueue (output_at s held) (link_at new.links) (ends_waiting new d) d (waiting_for s d (held ++ Some d ∷ []) held)
  here =
      let rest : waiting_for s d (held ++ Some d ∷ []) held ≡ first.more =
      ap (λ (n : ℕ). drop n (own_places s d held)) (came_once d held)
      ∙ drop_next (times d held) (own_places s d held) t.had.first first.more first.queue_is in
      let ends : ends_waiting new d ≡ ends_behind (link_at old.links t.had.first) t.had.last =
      t.ends_are d fits ∙ cond-true _ t.left (ends_waiting old d) (same_itself d) ∙ t.left_is in
      same_queue (output_at s held) (link_at old.links) (link_at new.links) (ends_behind (link_at old.links t.had.first) t.had.last) (ends_waiting new d) d
      first.more (waiting_for s d (held ++ Some d ∷ []) held)
      (tail (output_at s held) (link_at old.links) t.had d (waiting_for s d held held) first) links_are ends rest

  pub taken_keeps : KeepsWaits s new (held ++ Some d ∷ []) held
  taken_keeps = record {
    licensed = λ e e_fits e_from.
        elim (cases_Bool (same_datagram e d)) [
          | inl same ↦
              let is : e ≡ d = same_is e d same in
              let enough = some_left (times d held) (own_places s d held) t.had.first first.more first.queue_is in
              let most : times d (held ++ Some d ∷ []) ≤ length (own_places s d held) = omega (arith, enough, came_once d held) in
              subst (λ (x : Datagram). times x (held ++ Some d ∷ []) ≤ length (own_places s x held)) (sym is) most
          | inr differ ↦
              let most = keeps.licensed e e_fits e_from in
              omega (arith, most, came_as_before e d held differ)
        ];
    queue = λ e e_fits e_from.
        elim (cases_Bool (same_datagram e d)) [
          | inl same ↦
              subst (λ (x : Datagram). IsQueue (output_at s held) (link_at new.links) (ends_waiting new x) x (waiting_for s x (held ++ Some d ∷ []) held))
              (sym (same_is e d same)) here
          | inr differ ↦
              same_queue (output_at s held) (link_at old.links) (link_at new.links) (ends_waiting old e) (ends_waiting new e) e (waiting_for s e held held)
              (waiting_for s e (held ++ Some d ∷ []) held) (keeps.queue e e_fits e_from) links_are
              (t.ends_are e e_fits ∙ cond-false _ t.left (ends_waiting old e) differ)
              (ap (λ (n : ℕ). drop n (own_places s e held)) (came_as_before e d held differ))
        ];
    unlinked = λ place far. ap (λ (l : ℕ → ℕ). l place) links_are ∙ keeps.unlinked place far;
  }
