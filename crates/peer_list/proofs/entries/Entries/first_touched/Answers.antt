use Rattle.peer_list.proofs.Words.{Contains, Contains-cons_cases, Contains-entries, IsSince, List, Listing, ap, arith, inl, inr, subst, sym, ℕ, ◌∙◌}
use Rattle.peer_list.proofs.ChangeLemmas.{since_before}
use Rattle.peer_list.proofs.entries.Entries.first_touched.Goals as goal

pub loop-listing-init : goal.loop-listing-init
loop-listing-init c =
    let left = c.into_iter-listing-iterator.ensures.into_iter_gives ∙ c.iter-listing-items.ensures.rest in
    (tt, tt, omega arith, λ key x found. inr (rw left ((Contains-entries c.args.self.now.slab key x).1 found)))

pub loop-listing-preserved : goal.loop-listing-preserved
loop-listing-preserved c =
    let at = c.in-Some.ensures.steps in
    let is = c.min.ensures in
    let before = c.loop-listing.invariant.2 in (
      tt,
      tt,
      omega (arith, is, before),
      λ key x found. elim (c.loop-listing.invariant.3 key x found) [
        | inl since ↦ inl (since_before c.min.result c.loop-listing.first.0 x.peer.touched (omega (arith, is)) since)
        | inr left ↦ elim (Contains-cons_cases _ _ _ (subst (λ (ls : List (ℕ × Listing)). Contains ls (key, x)) at left)) [
          | inl same ↦ inl (subst (IsSince c.min.result) (sym (ap (λ (e : ℕ × Listing). e.1.peer.touched) (sym same) ∙ c.touched.ensures)) (omega (arith, is)))
          | inr rest ↦ inr rest
        ]
      ],
    )
