-- Clients' addresses, whichever NATs are behind others: they stay, and no two are the same. That they lead to their clients is
-- said in `theory_origins`.
use Rattle.std.specs.Prelude.{◌≡◌, ◌⊎◌, ℕ, true, false, List, Some}
use Rattle.td_base.specs.declared.ipv6.Ip6.{Ip6}
use Rattle.teredo_addr.specs.Teredo.{embedded}
use Rattle.topology.specs.declared.client_node.ClientNode.{ClientNode}
use Rattle.topology.specs.Rules.{IsTopology}
use Rattle.topology.specs.Topology.{client_at}
use Rattle.history.specs.Full.{Full}
use Rattle.legal.specs.Lab.{Lab}
use Rattle.legal.specs.Legal.{Grown}
use Rattle.legal.specs.Honest.{are_honest_for}
use Rattle.theory_verdicts.specs.Stays.{AddressStays}
use Rattle.theory_ways.specs.Ways.{IsChained}
use Rattle.theory_ways.specs.SettledAlong.{IsSettledAlong}
use Rattle.theory_ways.specs.UndisturbedAlong.{IsUndisturbedAlong, IsKeptOpenAlong}

-- that of a client which is undisturbed along its way stays; so does that of one which doesn't try the cone phase and whose
-- NATs were kept open
abbrev pub EachAddressStaysAlong : Type 0
EachAddressStaysAlong = (lab : Lab) (H : List Full) (n : ℕ) (c : ClientNode) → IsTopology lab.topology → IsChained lab → Grown lab H
    → are_honest_for lab.topology c H ≡ true → client_at lab.topology n ≡ Some c
    → IsUndisturbedAlong lab H n c ⊎ ((c.cone_try ≡ false) × IsKeptOpenAlong lab H n c) → AddressStays H n

-- two clients that are settled along their ways have addresses with the same endpoint only where they are one
abbrev pub AddressesDiffer : Type 0
AddressesDiffer = (lab : Lab) (H : List Full) (n m : ℕ) (a b : ClientNode) (own other : Ip6) → IsTopology lab.topology
    → client_at lab.topology n ≡ Some a → client_at lab.topology m ≡ Some b → IsSettledAlong lab H n a own → IsSettledAlong lab H m b other
    → embedded own ≡ embedded other → n ≡ m
