-- Right verdicts along ways: what a client makes of its NATs is so (RFC 4380, section 5.2.1).
use Rattle.std.specs.Prelude.{◌≡◌, ◌≢◌, ℕ, true, false, List, Some}
use Rattle.td_base.specs.declared.ipv6.Ip6.{Ip6}
use Rattle.teredo_addr.specs.Teredo.{has_cone}
use Rattle.qualify.specs.declared.phase.Phase.TheVariants.{Symmetric}
use Rattle.qualify.specs.Solicitations.{is_qualified}
use Rattle.topology.specs.declared.client_node.ClientNode.{ClientNode}
use Rattle.topology.specs.Rules.{IsTopology}
use Rattle.topology.specs.Topology.{client_at}
use Rattle.history.specs.Full.{Full}
use Rattle.legal.specs.Lab.{Lab}
use Rattle.legal.specs.Legal.{Grown}
use Rattle.legal.specs.Honest.{are_honest_for}
use Rattle.theory_settled.specs.Clients.{standing, client_address}
use Rattle.theory_ways.specs.Ways.{IsChained, has_symmetric}
use Rattle.theory_ways.specs.SettledAlong.{IsSettledAlong}
use Rattle.theory_ways.specs.UndisturbedAlong.{IsUndisturbedAlong, IsKeptOpenAlong}

-- *right along its way*: not qualified where some NAT is symmetric; settled along its way where qualified; not
-- `symmetric` where none is.
-- the verdict of client n, which is c, on the NATs of its way
pub record IsRightAlong (lab : Lab) (H : List Full) (n : ℕ) (c : ClientNode) : Type 0 where
  -- where one of them is symmetric it isn't qualified
  pub symmetric : has_symmetric lab c ≡ true → is_qualified (standing lab H n c).phase ≡ false
  -- where it is qualified it is settled along its way
  pub settled : is_qualified (standing lab H n c).phase ≡ true → (own : Ip6) × IsSettledAlong lab H n c own
  -- where none of them is symmetric it doesn't hold one for that
  pub other : has_symmetric lab c ≡ false → (standing lab H n c).phase ≢ Symmetric

-- in a history that is honest for it that of each client which is undisturbed along its way is
abbrev pub EachIsRightAlong : Type 0
EachIsRightAlong = (lab : Lab) (H : List Full) (n : ℕ) (c : ClientNode) → IsTopology lab.topology → IsChained lab → Grown lab H
    → are_honest_for lab.topology c H ≡ true → client_at lab.topology n ≡ Some c → IsUndisturbedAlong lab H n c → IsRightAlong lab H n c

-- that of a client which doesn't try the cone phase; its address doesn't say that its NATs are cone
pub record IsRightAlongWithoutCone (lab : Lab) (H : List Full) (n : ℕ) (c : ClientNode) : Type 0 where
  pub right : IsRightAlong lab H n c
  pub no_cone : (own : Ip6) → client_address lab H n c ≡ Some own → has_cone own ≡ false

-- so is that of each such client whose NATs were kept open
abbrev pub EachIsRightAlongWithoutCone : Type 0
EachIsRightAlongWithoutCone = (lab : Lab) (H : List Full) (n : ℕ) (c : ClientNode) → IsTopology lab.topology → IsChained lab → Grown lab H
    → are_honest_for lab.topology c H ≡ true → client_at lab.topology n ≡ Some c → c.cone_try ≡ false → IsKeptOpenAlong lab H n c
    → IsRightAlongWithoutCone lab H n c

-- in a history that is honest for it the verdict of each client that nothing disturbs along its way is right. So is
-- that of each client that doesn't try the cone phase and whose NATs were kept open; its address has no cone bit
pub record EachVerdictIsRightAlong : Type 0 where
  -- | See `verdicts_are_right_along`.
  pub undisturbed : EachIsRightAlong
  -- | See `verdicts_are_right_along`.
  pub kept_open : EachIsRightAlongWithoutCone
