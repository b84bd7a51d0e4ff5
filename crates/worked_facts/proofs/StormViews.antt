-- What can follow after a history, and how many deliveries do.
use Rattle.worked_facts.proofs.Words.{Full, List, TopologyState, arith, burden, burden_most, if◌then◌else◌, is_some, length, sum_by, undelivered_items, waits, ℕ, ◌<◌, ◌≡◌, ◌≤◌}

-- how many entries are undelivered and how many packets wait, what they weigh, and how much that can be at most
pub record Storm : Type 0 where
  pub undelivered : ℕ
  pub waiting : ℕ
  pub weights : ℕ
  pub most : ℕ

abbrev pub storm : TopologyState → List Full → Storm
storm t H = record { undelivered = length (undelivered_items H); waiting = length (waits t H); weights = burden t H; most = burden_most t H }

-- how many of these records delivered an entry
abbrev pub deliveries : List Full → ℕ
deliveries later = sum_by (λ (r : Full). if is_some r.delivered then 1 else 0) later

-- they are more than may follow
pub record Exceeds (t : TopologyState) (H later : List Full) : Type 0 where
  pub most : ℕ
  pub many : ℕ
  pub bound : burden_most t H ≡ most
  pub count : deliveries later ≡ many
  pub more : most < many

pub too_many : (t : TopologyState) (H later : List Full) → Exceeds t H later → deliveries later ≤ burden_most t H → ⊥
too_many t H later e less = let bound = e.bound in let count = e.count in let more = e.more in omega (arith, bound, count, more, less)
