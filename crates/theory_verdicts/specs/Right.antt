-- Right verdicts: what a client makes of its NAT is so (RFC 4380, section 5.2.1).
use Rattle.std.specs.Prelude.{◌≡◌, ◌≢◌, ℕ, true, false, List, [], Some}
use Rattle.td_base.specs.declared.ipv6.Ip6.{Ip6}
use Rattle.teredo_addr.specs.Teredo.{has_cone}
use Rattle.qualify.specs.declared.phase.Phase.TheVariants.{Symmetric}
use Rattle.qualify.specs.Solicitations.{is_qualified}
use Rattle.topology.specs.declared.client_node.ClientNode.{ClientNode}
use Rattle.topology.specs.Rules.{IsTopology}
use Rattle.topology.specs.Topology.{client_at}
use Rattle.history.specs.Full.{Full}
use Rattle.legal.specs.Lab.{Lab}
use Rattle.legal.specs.Legal.{Grown}
use Rattle.legal.specs.Honest.{are_honest_for}
use Rattle.nat_kinds.specs.Kinds.{is_symmetric}
use Rattle.theory_settled.specs.Clients.{standing, client_address, nat_behind}
use Rattle.theory_settled.specs.Settled.{IsSettled}
use Rattle.theory_verdicts.specs.Undisturbed.{IsUndisturbed, IsKeptOpen}

-- *right verdict*: not qualified behind a symmetric NAT; settled where qualified; not `symmetric` behind another NAT.
-- the verdict of client n, which is c, on its NAT
pub record IsRight (lab : Lab) (H : List Full) (n : ℕ) (c : ClientNode) : Type 0 where
  -- behind a symmetric NAT it isn't qualified
  pub symmetric : is_symmetric (nat_behind lab c).kind ≡ true → is_qualified (standing lab H n c).phase ≡ false
  -- where it is qualified it is settled
  pub settled : is_qualified (standing lab H n c).phase ≡ true → (own : Ip6) × IsSettled lab H n c own
  -- behind a NAT of another kind it doesn't hold this for symmetric
  pub other : is_symmetric (nat_behind lab c).kind ≡ false → (standing lab H n c).phase ≢ Symmetric

-- where no NAT is behind another one, that of each undisturbed client is, in a history that is honest for it
abbrev pub EachIsRight : Type 0
EachIsRight = (lab : Lab) (H : List Full) (n : ℕ) (c : ClientNode) → lab.chain ≡ [] → IsTopology lab.topology → Grown lab H
    → are_honest_for lab.topology c H ≡ true → client_at lab.topology n ≡ Some c → IsUndisturbed lab H n c → IsRight lab H n c

-- that of a client which doesn't try the cone phase; its address doesn't say that its NAT is cone
pub record IsRightWithoutCone (lab : Lab) (H : List Full) (n : ℕ) (c : ClientNode) : Type 0 where
  pub right : IsRight lab H n c
  pub no_cone : (own : Ip6) → client_address lab H n c ≡ Some own → has_cone own ≡ false

-- so is that of each such client whose NAT was kept open
abbrev pub EachIsRightWithoutCone : Type 0
EachIsRightWithoutCone = (lab : Lab) (H : List Full) (n : ℕ) (c : ClientNode) → lab.chain ≡ [] → IsTopology lab.topology → Grown lab H
    → are_honest_for lab.topology c H ≡ true → client_at lab.topology n ≡ Some c → c.cone_try ≡ false → IsKeptOpen lab H n c
    → IsRightWithoutCone lab H n c

-- in a history that is honest for it the verdict of each undisturbed client is right. So is that of each client that
-- doesn't try the cone phase and whose NAT was kept open; its address has no cone bit
pub record EachVerdictIsRight : Type 0 where
  -- | See `verdicts_are_right`.
  pub undisturbed : EachIsRight
  -- | See `verdicts_are_right`.
  pub kept_open : EachIsRightWithoutCone
