-- A packet that a host hands in, with all that follows it.
use Rattle.theory_reaching.proofs.Words.{AreFresh, Full, Grown, IsChained, IsOver, IsSentNext, IsTopology, Lab, List, Node, Some, ap, host_hands, node_at, subst, ℕ, ◌++◌, ◌∙◌, ◌∷◌, ◌≡◌}
use Rattle.theory_settled.proofs.Earlier.{earlier}
use Rattle.theory_reaching.proofs.waiting.OverEvents.{IsWhole, not_handing, over_before}

-- node n is a, and node m is b. In the record q after H the host of n hands in x for m, and the records `later` follow
pub record NextPacket (a b : Node) : Type 0 where
  pub lab : Lab
  pub H : List Full
  pub is : IsTopology lab.topology
  pub chained : IsChained lab
  pub q : Full
  pub later : List Full
  pub n : ℕ
  pub m : ℕ
  pub x : List ℕ
  pub g : Grown lab (later ++ q ∷ H)
  pub at : node_at lab.topology n ≡ Some a
  pub to : node_at lab.topology m ≡ Some b
  pub sent : IsSentNext lab H q n m a x
  pub fresh : AreFresh q later

-- the latest event before it is over
pub over : {a b : Node} (the : NextPacket a b) → IsOver the.H
over {a} the =
    let follows = (earlier the.lab the.later (the.q ∷ the.H) the.g).0 in
    let taken = host_hands the.H the.at follows
    the.sent.handed in
    over_before the.H the.q.asked follows.goes_on (not_handing the.lab the.H the.q.asked taken.verb the.n the.x taken.hands)

pub whole : {a b : Node} (the : NextPacket a b) → IsWhole the.lab the.H
whole the = record { grown = (earlier the.lab the.later (the.q ∷ the.H) the.g).1; over = over the }

-- the same of nodes that are the same
abbrev pub of_nodes : {a b c d : Node} → NextPacket a b → a ≡ c → b ≡ d → NextPacket c d
of_nodes the same other = record {
  lab = the.lab;
  H = the.H;
  is = the.is;
  chained = the.chained;
  q = the.q;
  later = the.later;
  n = the.n;
  m = the.m;
  x = the.x;
  g = the.g;
  at = the.at ∙ ap (λ (z : Node). Some z) same;
  to = the.to ∙ ap (λ (z : Node). Some z) other;
  sent = subst (λ (z : Node). IsSentNext the.lab the.H the.q the.n the.m z the.x) same the.sent;
  fresh = the.fresh;
}
