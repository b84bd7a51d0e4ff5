-- Clients settled along their ways: what comes from a client's server to its address reaches it, past each of its NATs.
use Rattle.std.specs.Prelude.{◌≡◌, ℕ, true, false, List, [], Some}
use Rattle.td_base.specs.declared.ipv6.Ip6.{Ip6}
use Rattle.teredo_addr.specs.Teredo.{embedded, has_cone}
use Rattle.topology.specs.declared.client_node.ClientNode.{ClientNode}
use Rattle.topology.specs.Rules.{IsTopology}
use Rattle.topology.specs.Topology.{client_at}
use Rattle.history.specs.Full.{Full}
use Rattle.legal.specs.Lab.{Lab}
use Rattle.legal.specs.Past.{now}
use Rattle.legal.specs.Legal.{Grown}
use Rattle.legal.specs.Routes.{IsLetIn}
use Rattle.theory_settled.specs.Clients.{client_address, asks_at}
use Rattle.theory_settled.specs.Settled.{IsSettled}
use Rattle.theory_ways.specs.Ways.{has_symmetric, is_all_cone}

-- *settled along its way*: it has an address, behind no symmetric NAT; what its server sends there is let in to it; the
-- cone bit only behind cone NATs.
-- client n has the address own behind NATs of which none is symmetric. What its server sends to the endpoint in it is let in
-- to the client by all of them, and it has the cone bit only where each of them is cone
-- Premise: a client settled along its way, of one to three NATs: it has an `address`; none of the `kinds` of its NATs
-- is symmetric; what its server sends to the endpoint in its address is let in to it, `reached`; and it has the `cone`
-- bit only where all of them are cone.
pub record IsSettledAlong (lab : Lab) (H : List Full) (n : ℕ) (c : ClientNode) (own : Ip6) : Type 0 where
  pub address : client_address lab H n c ≡ Some own
  pub kinds : has_symmetric lab c ≡ false
  pub reached : IsLetIn lab H (now H) (asks_at lab c) (embedded own) c
  pub cone : has_cone own ≡ true → is_all_cone lab c ≡ true

-- where no NAT is behind another one that is to be settled
abbrev pub EachIsSettledBehindOne : Type 0
EachIsSettledBehindOne = (lab : Lab) (H : List Full) (n : ℕ) (c : ClientNode) (own : Ip6) → lab.chain ≡ [] → IsTopology lab.topology → Grown lab H
    → client_at lab.topology n ≡ Some c → IsSettledAlong lab H n c own → IsSettled lab H n c own

-- and to be settled is that
abbrev pub EachSettledIsAlong : Type 0
EachSettledIsAlong = (lab : Lab) (H : List Full) (n : ℕ) (c : ClientNode) (own : Ip6) → lab.chain ≡ [] → IsTopology lab.topology → Grown lab H
    → client_at lab.topology n ≡ Some c → IsSettled lab H n c own → IsSettledAlong lab H n c own
