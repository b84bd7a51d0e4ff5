-- Clients that nothing disturbs along their ways, over whole histories: their verdicts are right, and their addresses stay.
use Rattle.theory_ways.proofs.Words.{Bool, EachIsRightAlong, Ep, Full, Grown, IsFirst, IsUndisturbedAlong, List, Outward, Phase, [], ap, are_honest_for, began_seen, cond, counting, false, first_cone, first_is_early, first_phase, first_restricted, fresh_journal, has_of, has_sent, is_early, is_first, is_seen, journal, let_out_of, nat_history, nat_of, new_journal, none_has, now, qualified_rests, refl, rests_late, same_ep, same_ep-self, standing, starts, starts_in, stays_at_start, subst, sym, true, ℕ, ◌∙◌, ◌∷◌, ◌≡◌}
use Rattle.theory_ways.proofs.phases.OneMore.{Walker, Asker}
use Rattle.theory_ways.proofs.phases.Sound.{settings_of, standing_of, IsSoundAlong}
use Rattle.theory_ways.proofs.phases.FirstAsks.{IsUnseenAt}
use Rattle.theory_ways.proofs.phases.Judged.{judged}
use Rattle.theory_ways.proofs.phases.Histories.{one_more_of, honest_before, open_parts, undisturbed_before, calm_of, asks_at_start}
use Rattle.theory_ways.proofs.phases.Fine.{IsFine, fine_next}

-- a start
fine_at_start : (v : Asker) (m : ℕ) → journal v.number v.past ≡ new_journal m → ((k : ℕ) → let_out_of v.number k v.past ≡ [])
    → IsUnseenAt v (now v.past) → IsFine v
fine_at_start v m fresh none unseen = record {
  sound = subst (λ (p : Phase). IsSoundAlong v p (standing_of v).kept (standing_of v).address)
      (sym (starts_in v.lab v.past v.number m v.row fresh)) (by (first_phase (settings_of v)) (is_first (settings_of v)));
  asks = asks_at_start v none;
  rests = λ rests. absurd (rests_late (standing_of v).phase rests early);
  untried = λ sent. record { unseen = unseen; early = early };
  stays = stays_at_start v.past v.number m fresh;
} where
  early : is_early (standing_of v).phase ≡ true
  early = ap is_early (starts_in v.lab v.past v.number m v.row fresh)
      ∙ first_is_early v.row.cone_try (first_phase (settings_of v)) (is_first (settings_of v))

  by : (p : Phase) → IsFirst v.row.cone_try p → IsSoundAlong v p (standing_of v).kept (standing_of v).address
  by p (first_cone tries same) = subst (λ (z : Phase). IsSoundAlong v z (standing_of v).kept (standing_of v).address)
      (sym same) (tries, λ o asks. λ d counts left. absurd (unseen d counts left))
  by p (first_restricted same) = subst (λ (z : Phase). IsSoundAlong v z (standing_of v).kept (standing_of v).address) (sym same) tt

-- nothing counts where nothing is seen
unseen_of : (v : Asker) → is_seen v.lab v.past v.row ≡ false → IsUnseenAt v (now v.past)
unseen_of v none d counts left =
    let now_there = counting (nat_of v.lab v.row.nat).idle (now v.past) (nat_history v.lab v.row.nat v.past) in
    none_has (λ (e : Outward). same_ep e.inside v.row.inside) now_there d none (has_of now_there d counts)
    (ap (λ (e : Ep). same_ep e v.row.inside) left ∙ same_ep-self v.row.inside)

module _ (the : Walker) where
  open the use {lab, n, c, there}

  abbrev client_after : List Full → Asker
  client_after H = record { lab = lab; past = H; number = n; row = c }

  abbrev HasSent : List Full → Bool
  HasSent before = has_sent lab before n c

  pub fine : (H : List Full) → Grown lab H → are_honest_for lab.topology c H ≡ true → IsUndisturbedAlong lab H n c → IsFine (client_after H)
  fine [] g honest calm = fine_at_start (client_after []) 0 refl (λ k. refl) (λ d counts left. has_of [] d counts)
  fine (r ∷ H) g honest calm = by (starts n r) refl calm.began (fine H g.1 (honest_before lab n c H r honest)) where
    by : (b : Bool) → starts n r ≡ b → cond b (is_seen lab (r ∷ H) c) (began_seen lab H n c) ≡ false
        → (IsUndisturbedAlong lab H n c → IsFine (client_after H)) → IsFine (client_after (r ∷ H))
    by true on began ih =
        fine_at_start (client_after (r ∷ H)) r.moment (fresh_journal H r n on) (λ k. rw on refl) (unseen_of (client_after (r ∷ H)) began)
    by false off began ih = fine_next (one_more_of lab n c there H r g) (calm_of lab n c H r there g off honest calm.lasts)
        (ih (undisturbed_before lab n c H r off calm)) (open_parts lab n c H r HasSent off calm.server_open).0 calm.new

-- so its verdict is right
pub each_is_right_along : EachIsRightAlong
each_is_right_along lab H n c is chained g honest listed calm =
    let the : Walker = record { lab = lab; n = n; c = c; there = record { is = is; chained = chained; listed = listed } } in
    let f = fine the H g honest calm in
    judged (record { lab = lab; past = H; number = n; row = c }) the.there g f.sound (λ q. f.rests (qualified_rests (standing lab H n c).phase q))
