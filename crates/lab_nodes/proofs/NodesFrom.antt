-- The nodes from a number on, which were called and stand for their pasts.
use Rattle.lab_nodes.proofs.Words.{AreReady, Full, IsKept, IsReady, Lab, List, NodesOf, PlayedNode, Some, arith, now, past_of, refl, slice_get, subst, suc, ℕ, ◌+◌, ◌∷◌, ◌≡◌}

pub record NodesFrom (lab : Lab) (H : List Full) (n : ℕ) (rest : List PlayedNode) : Type 0 where
  pub ready : AreReady (now H) rest
  pub kept : (k : ℕ) (p : PlayedNode) → slice_get rest k ≡ Some p → IsKept lab.topology (n + k) (past_of lab (n + k) H) p

pub all_from : (lab : Lab) (H : List Full) (list : List PlayedNode) → NodesOf lab list H → AreReady (now H) list → NodesFrom lab H 0 list
all_from lab H list of ready =
    let same : (k : ℕ) → k ≡ 0 + k = λ (k : ℕ). omega arith in
    record { ready = ready; kept = λ k p at. subst (λ (i : ℕ). IsKept lab.topology i (past_of lab i H) p) (same k) (of.each k p at) }

-- the first of them, and those behind it
module _ (lab : Lab) (H : List Full) (n : ℕ) (p : PlayedNode) (rest : List PlayedNode) (from : NodesFrom lab H n (p ∷ rest)) where
  pub first_kept : IsKept lab.topology n (past_of lab n H) p
  first_kept =
      let zeroth : n + 0 ≡ n = omega arith in
      subst (λ (i : ℕ). IsKept lab.topology i (past_of lab i H) p) zeroth (from.kept 0 p refl)

  pub first_ready : IsReady (now H) p
  first_ready = from.ready.0

  pub behind : NodesFrom lab H (n + 1) rest
  behind =
      let next : (k : ℕ) → n + suc k ≡ n + 1 + k = λ (k : ℕ). omega arith in
      record { ready = from.ready.1; kept = λ k q at. subst (λ (i : ℕ). IsKept lab.topology i (past_of lab i H) q) (next k) (from.kept (suc k) q at) }
