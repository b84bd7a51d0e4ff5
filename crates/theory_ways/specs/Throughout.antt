-- What holds along ways at each record of a history in which NATs are behind others by the rules.
use Rattle.std.specs.Prelude.{◌≡◌, ◌⊎◌, ℕ, true, false, List, ◌++◌}
use Rattle.std.specs.Prelude.{Some}
use Rattle.td_base.specs.declared.ipv6.Ip6.{Ip6}
use Rattle.teredo_addr.specs.Teredo.{embedded}
use Rattle.topology.specs.declared.client_node.ClientNode.{ClientNode}
use Rattle.topology.specs.Rules.{IsTopology}
use Rattle.topology.specs.Topology.{client_at}
use Rattle.history.specs.Full.{Full}
use Rattle.legal.specs.Lab.{Lab}
use Rattle.legal.specs.Legal.{Grown}
use Rattle.legal.specs.Honest.{are_honest_for}
use Rattle.theory_verdicts.specs.Stays.{AddressStays}
use Rattle.theory_ways.specs.Ways.{IsChained}
use Rattle.theory_ways.specs.SettledAlong.{IsSettledAlong}
use Rattle.theory_ways.specs.UndisturbedAlong.{IsUndisturbedAlong, IsKeptOpenAlong}
use Rattle.theory_ways.specs.RightAlong.{IsRightAlong, IsRightAlongWithoutCone}
use Rattle.theory_ways.specs.Neighbours.{NeighboursUnheardLast}

-- after the latest record
pub record HoldsAlongWays (lab : Lab) (H : List Full) : Type 0 where
  -- where all records are honest for it, the verdict of each client that nothing disturbs along its way is right
  pub undisturbed : (n : ℕ) (c : ClientNode) → are_honest_for lab.topology c H ≡ true → client_at lab.topology n ≡ Some c
      → IsUndisturbedAlong lab H n c → IsRightAlong lab H n c
  -- so is that of each client without the cone phase whose NATs were kept open
  pub kept_open : (n : ℕ) (c : ClientNode) → are_honest_for lab.topology c H ≡ true → client_at lab.topology n ≡ Some c
      → c.cone_try ≡ false → IsKeptOpenAlong lab H n c → IsRightAlongWithoutCone lab H n c
  -- and the address of such clients stays
  pub stays : (n : ℕ) (c : ClientNode) → are_honest_for lab.topology c H ≡ true → client_at lab.topology n ≡ Some c
      → IsUndisturbedAlong lab H n c ⊎ ((c.cone_try ≡ false) × IsKeptOpenAlong lab H n c) → AddressStays H n
  -- two clients that are settled along their ways have addresses with the same endpoint only where they are one
  pub differ : (n m : ℕ) (a b : ClientNode) (own other : Ip6) → client_at lab.topology n ≡ Some a → client_at lab.topology m ≡ Some b
      → IsSettledAlong lab H n a own → IsSettledAlong lab H m b other → embedded own ≡ embedded other → n ≡ m
  -- the latest record hands no client's host a packet of a client behind the same outermost NAT
  pub unheard : NeighboursUnheardLast lab H

-- after each record
abbrev pub HoldsAlongWaysThroughout : Lab → List Full → Type 0
HoldsAlongWaysThroughout lab H = (later before : List Full) → H ≡ later ++ before → HoldsAlongWays lab before

-- of each history of a topology that keeps its rules, and of a chain that does
abbrev pub HistoriesHoldAlongWays : Type 0
HistoriesHoldAlongWays = (lab : Lab) (H : List Full) → IsTopology lab.topology → IsChained lab → Grown lab H → HoldsAlongWaysThroughout lab H
