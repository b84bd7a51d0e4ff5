-- A node that is no NAT, and sends nothing past one, leaves the NATs of a client's way as they were.
use Rattle.theory_reaching.proofs.Words.{AllByRecursion, Full, IsOnWay, Lab, List, Node, Option, Some, [], ap, each_so, false, frame, is_nat_node, nat_history, no_nat, node_at, outs_at, sym, unwrap_or, ℕ, ◌∙◌, ◌∷◌, ◌≡◌}

pub stay : (lab : Lab) (G : List Full) (p : Full) (i : ℕ) (a : Node) → p.node ≡ Some i → p.passed ≡ [] → node_at lab.topology i ≡ Some a
    → is_nat_node a ≡ false → (way : List ℕ) → AllByRecursion (IsOnWay lab) way
    → AllByRecursion (λ (k : ℕ). nat_history lab k (p ∷ G) ≡ nat_history lab k G) way
stay lab G p i a node passed at kind = each_so
    (λ k (on : IsOnWay lab k). (frame lab G p).nats k
    (λ same. no_nat lab i a at kind k on (ap (λ (o : Option ℕ). unwrap_or o k) (sym same ∙ node))) (ap (outs_at k) passed))
