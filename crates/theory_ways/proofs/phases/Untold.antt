-- A turn that no advertisement brings leaves what a client's phase says so.
use Rattle.theory_ways.proofs.Words.{Cone, Ep, Ip6, None, OffLine, Option, Phase, Qualified, Restricted, Secondary, Some, Symmetric, Turn, address_then, ap, begins, cond, false, inl, inr, is_some, is_told, kept_then, still_address, still_begins, still_kept, subst, sym, unwrap_or, ℕ, ◌∙◌, ◌≡◌, ◌⊎◌}
use Rattle.theory_ways.proofs.phases.OneMore.{Asker}
use Rattle.theory_ways.proofs.phases.Sound.{settings_of, OwnOrigin, GoodAddress, IsSoundAlong}

-- a turn by which the client is told nothing
pub record NothingTold : Type 0 where
  pub v : Asker
  pub u : Turn
  pub w : Option ℕ
  pub o : Option Ep
  pub k : Option Ep
  pub a : Option Ip6
  pub h : is_told u ≡ false

module _ (nothing_told : NothingTold) where
  open nothing_told use {v, u, w, o, k, a, h}

  -- what is known after it
  abbrev Then : Phase → Phase → Type 0
  Then begun p = IsSoundAlong v begun (kept_then p u o k) (address_then (settings_of v) p u w o a)

  goes_on : (p : Phase) → begins u ≡ None → IsSoundAlong v p k a → Then p p
  goes_on Cone e i = i
  goes_on Restricted e i = tt
  goes_on Secondary e i = subst (OwnOrigin v)
      (sym (still_kept u o (cond (is_some (begins u)) None k) h ∙ ap (λ (z : Option Phase). cond (is_some z) None k) e)) i
  goes_on Qualified e i = subst (GoodAddress v)
      (sym (still_address (settings_of v) u w o (cond (is_some (begins u)) None a) h ∙ ap (λ (z : Option Phase). cond (is_some z) None a) e)) i
  goes_on Symmetric e i = i
  goes_on OffLine e i = tt

  -- leaves what a phase says so
  pub untold_along : (p : Phase) → IsSoundAlong v p k a → Then (unwrap_or (begins u) p) p
  untold_along p i = by (still_begins u h) where
    by : (begins u ≡ None) ⊎ ((begins u ≡ Some Restricted) ⊎ (begins u ≡ Some OffLine)) → Then (unwrap_or (begins u) p) p
    by (inl e) = subst (λ (z : Option Phase). Then (unwrap_or z p) p) (sym e) (goes_on p e i)
    by (inr (inl e)) = subst (λ (z : Option Phase). Then (unwrap_or z p) p) (sym e) tt
    by (inr (inr e)) = subst (λ (z : Option Phase). Then (unwrap_or z p) p) (sym e) tt
