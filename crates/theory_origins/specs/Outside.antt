-- Which datagram brought a packet that a client's host is handed, at once or late.
use Rattle.std.specs.Prelude.{◌≡◌, ◌∷◌, ◌++◌, ℕ, List, Contains, slice_get, Some}
use Rattle.td_base.specs.declared.endpoint.Ep.{Ep}
use Rattle.teredo_node.specs.Journal.{Entry}
use Rattle.client_rules.specs.Handed.{HoldingRule}
use Rattle.topology.specs.declared.client_node.ClientNode.{ClientNode}
use Rattle.topology.specs.Topology.{client_at}
use Rattle.history.specs.Full.{udp, Full, wire}
use Rattle.legal.specs.Lab.{Lab}
use Rattle.legal.specs.Legal.{Grown}
use Rattle.theory_origins.specs.Handed.{HandsToHost}

-- the record hands x to the host of client n, at once or late
pub data ReachesHost (lab : Lab) (r : Full) (n : ℕ) (c : ClientNode) (x : List ℕ) : Type 0 where
  hands_now : HandsToHost lab r n c x → ReachesHost lab r n c x
  hands_late : r.node ≡ Some n → client_at lab.topology n ≡ Some c → Contains r.late x → ReachesHost lab r n c x

-- in one of these records client n was given x in entry number k, and held it
pub record HeldIn (H : List Full) (n k : ℕ) (x : List ℕ) : Type 0 where
  pub later : List Full
  pub record_of : Full
  pub earlier : List Full
  pub split : H ≡ later ++ record_of ∷ earlier
  pub node : record_of.node ≡ Some n
  pub delivered : record_of.delivered ≡ Some k
  pub entry : Entry
  pub did : record_of.entry ≡ Some entry
  pub rule : HoldingRule entry.step.fate
  pub packet : entry.packet ≡ Some x

-- entry number k brought x, which the record after H hands to the host of client n
pub data IsBringer (H : List Full) (r : Full) (n k : ℕ) (x : List ℕ) : Type 0 where
  at_once : r.handed ≡ Some x → r.delivered ≡ Some k → IsBringer H r n k x
  late : Contains r.late x → HeldIn H n k x → IsBringer H r n k x

-- *brought by*: the datagram of a packet that a host is handed, at once or late: the one that the record delivers, or
-- one that was held.
-- the entry that brought x is a datagram
-- Premise: what brought a packet that a host is handed, at once or late: an entry `brings` it, which is a `datagram`.
pub record IsBroughtBy (H : List Full) (r : Full) (n : ℕ) (x : List ℕ) : Type 0 where
  pub number : ℕ
  pub from : Ep
  pub dst : Ep
  pub bytes : List ℕ
  pub brings : IsBringer H r n number x
  pub datagram : slice_get (wire H) number ≡ Some (udp from dst bytes)

-- each packet that a client's host is handed has one, whatever strangers do
abbrev pub EachIsBroughtBy : Type 0
EachIsBroughtBy = (lab : Lab) (H : List Full) (r : Full) (n : ℕ) (c : ClientNode) (x : List ℕ) → Grown lab (r ∷ H)
    → ReachesHost lab r n c x → IsBroughtBy H r n x
