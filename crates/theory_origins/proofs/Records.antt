-- A record that follows a history, and what it says of a client.
use Rattle.theory_origins.proofs.Words.{ClientNode, Follows, Full, Grown, IsTopology, Lab, List, OfNode, Some, client, client_at, client_there, of_node, ℕ, ◌∷◌, ◌≡◌}

-- a history of a laboratory that keeps the rules, with its latest record
pub record Latest : Type 0 where
  pub lab : Lab
  pub before : List Full
  pub full : Full
  pub is : IsTopology lab.topology
  pub grown : Grown lab (full ∷ before)

-- what a record of client n says
pub of_client : (lab : Lab) (H : List Full) (r : Full) (n : ℕ) (c : ClientNode) → Follows lab H r → r.node ≡ Some n
    → client_at lab.topology n ≡ Some c → OfNode lab H r n (client c)
of_client lab H r n c follows node there = of_node lab H r n (client c) follows node (client_there lab.topology n c there)
