-- What a record adds to a NAT's history, and what of it counts.
use Rattle.theory_ways.proofs.Words.{Bool, Contains, Full, Has, Lab, List, NatEntry, Out, Outward, Passing, Restart, [], ap, cond, contains_of, counted, counting, false, forgotten, has_of, inl, inr, is_node, is_restart, kept, nat_entries, nat_history, nat_of, none_forgotten, now, one_entry, out_or, outs_at, refl, true, ℕ, ◌++◌, ◌==◌, ◌∷◌, ◌≤◌, ◌⊎◌}
use Rattle.theory_ways.proofs.phases.OneMore.{OneMore, was, after}
use Rattle.theory_ways.proofs.outwards.Asks.{Counts}

-- a datagram that a record adds to a NAT's history was let out in it
pub out_there : (lab : Lab) (r : Full) (k : ℕ) (d : Outward) → Has (nat_entries lab k r) (Out d) → Has (outs_at k r.passed) (Out d)
out_there lab r k d h = by (is_node k r.node) (is_restart r.act) h where
  by : (b x : Bool) → Has (cond b (cond x (Restart ∷ []) (forgotten lab r.asked)) (outs_at k r.passed)) (Out d) → Has (outs_at k r.passed) (Out d)
  by true true g = absurd (one_entry Restart d refl g)
  by true false g = absurd (none_forgotten lab r.asked d g)
  by false x g = g

-- what was let out is kept
pub kept_new : (k : ℕ) (ps : List Passing) (h : List NatEntry) (d : Outward) → Has (outs_at k ps) (Out d) → Has (kept (outs_at k ps ++ h)) d
kept_new k [] h d g = absurd g
kept_new k (p ∷ ps) h d g = by (p.nat == k) g (kept_new k ps h d) where
  by : (b : Bool) → Has (cond b (Out p.datagram ∷ outs_at k ps) (outs_at k ps)) (Out d) → (Has (outs_at k ps) (Out d) → Has (kept (outs_at k ps ++ h)) d)
      → Has (kept (cond b (Out p.datagram ∷ outs_at k ps) (outs_at k ps) ++ h)) d
  by true (inl same) ih = inl (ap (out_or d) same)
  by true (inr on) ih = inr (ih on)
  by false on ih = ih on

module _ (x : OneMore) where
  -- it counted, at a moment
  abbrev pub CountedAt : ℕ → ℕ → Outward → Type 0
  CountedAt m k d = Contains (counting (nat_of x.lab k).idle m (nat_history x.lab k x.before)) d

  -- what counts after the record is new, or counted at an earlier moment
  pub new_or_at : (m k : ℕ) (d : Outward) → m ≤ x.full.moment → Counts (after x) k d → Has (outs_at k x.full.passed) (Out d) ⊎ CountedAt m k d
  new_or_at m k d later counts = by (counted (nat_of x.lab k).idle m x.full.moment (nat_entries x.lab k x.full) (nat_history x.lab k x.before) d later
      (has_of (counting (nat_of x.lab k).idle x.full.moment (nat_history x.lab k (x.full ∷ x.before))) d counts)) where
        by : Has (nat_entries x.lab k x.full) (Out d) ⊎ Has (counting (nat_of x.lab k).idle m (nat_history x.lab k x.before)) d
            → Has (outs_at k x.full.passed) (Out d) ⊎ CountedAt m k d
        by (inl new) = inl (out_there x.lab x.full k d new)
        by (inr old) = inr (contains_of (counting (nat_of x.lab k).idle m (nat_history x.lab k x.before)) d old)

  -- in particular before it
  pub new_or_was : (k : ℕ) (d : Outward) → now x.before ≤ x.full.moment → Counts (after x) k d → Has (outs_at k x.full.passed) (Out d) ⊎ Counts (was x) k d
  new_or_was k d later counts = new_or_at (now x.before) k d later counts
