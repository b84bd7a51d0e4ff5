-- What waits at a client where an event is over: packets for peers alone that it may not try yet (RFC 4380, section 5.2.6).
use Rattle.std.specs.Prelude.{◌≡◌, ℕ, ◌&&◌, not, Bool, true, List, [], ◌∷◌, Some}
use Rattle.td_base.specs.declared.ipv6.Ip6.{Ip6}
use Rattle.peer_list.specs.Judged.{is_barred}
use Rattle.topology.specs.declared.client_node.ClientNode.{ClientNode}
use Rattle.topology.specs.declared.node.Node.TheVariants.{Client as client}
use Rattle.topology.specs.Topology.{node_at}
use Rattle.history.specs.Full.{Full}
use Rattle.legal.specs.Lab.{Lab}
use Rattle.legal.specs.Laws.{is_advance}
use Rattle.legal.specs.Past.{now, has_more}
use Rattle.legal.specs.Legal.{Grown}
use Rattle.theory_first_packets.specs.MayMeet.{known_by}
use Rattle.theory_reaching.specs.Conditions.{keeps_packets}

-- the record isn't a tick of an advance that goes on
abbrev pub is_over : Full → Bool
is_over r = not (is_advance r.asked && has_more r.asked r.act)

-- *over*, of the latest event: whatever happens next is of another one, but where it is an advance.
-- the latest event is over
abbrev pub IsOver : List Full → Type 0
IsOver [] = Unit {0}
IsOver (r ∷ H) = is_over r ≡ true

-- a client is barred for each peer for which packets wait at it
abbrev pub ClientKeptBackIn : Lab → List Full → Type 0
ClientKeptBackIn lab H = (n : ℕ) (c : ClientNode) (p : Ip6) → node_at lab.topology n ≡ Some (client c) → keeps_packets (known_by H n p) ≡ true
    → is_barred (now H) (known_by H n p) ≡ true

-- in each history, where the latest event is over: no tick is late
abbrev pub ClientKeptBack : Type 0
ClientKeptBack = (lab : Lab) (H : List Full) → Grown lab H → IsOver H → ClientKeptBackIn lab H
