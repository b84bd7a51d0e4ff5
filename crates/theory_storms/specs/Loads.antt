-- How heavy an entry can be, and what a delivery does to what is undelivered, whatever an entry weighs.
use Rattle.std.specs.Prelude.{◌≡◌, ◌≤◌, ◌+◌, ℕ, false, List, ◌∷◌, length, sum_by, slice_get, Some}
use Rattle.td_base.specs.declared.endpoint.Ep.{Ep}
use Rattle.topology.specs.declared.server_node.ServerNode.{ServerNode}
use Rattle.topology.specs.declared.node.Node.TheVariants.{Server as server}
use Rattle.topology.specs.Rows.{TopologyState}
use Rattle.history.specs.Full.{Item, Full, wire, items_of}
use Rattle.topology.specs.Rules.{IsTopology}
use Rattle.legal.specs.Lab.{Lab}
use Rattle.legal.specs.Past.{was_delivered}
use Rattle.legal.specs.Legal.{Grown}
use Rattle.weights.specs.Weights.{weight_at, entry_weight, WEIGHT_MAX, SERVED_WEIGHT_MAX}
use Rattle.weights.specs.Burden.{undelivered_items, waits, burden, burden_most}

-- an entry weighs 1 at least, itself, and 12 at most
pub record IsWeighed (t : TopologyState) (x : Item) : Type 0 where
  pub least : 1 ≤ entry_weight t x
  pub most : entry_weight t x ≤ WEIGHT_MAX

-- each entry weighs 1 at least, and 12 at most
abbrev pub EachIsWeighed : Type 0
EachIsWeighed = (t : TopologyState) (x : Item) → IsWeighed t x

-- a datagram that comes to a server 9 at most: itself, and what the server makes of it
abbrev pub EachServedIsWeighed : Type 0
EachServedIsWeighed = (t : TopologyState) (src dst : Ep) (x : List ℕ) (a : ServerNode) → weight_at t src dst x (Some (server a)) ≤ SERVED_WEIGHT_MAX

-- all together no more than 12 each, and a packet that waits no more either
abbrev pub BurdenIsBounded : Type 0
BurdenIsBounded = (t : TopologyState) (H : List Full) → burden t H ≤ burden_most t H

-- as many packets as can wait at once: 8 for each of the 256 peers of 64 clients and 4 relays
abbrev pub WAITS_MAX : ℕ
WAITS_MAX = 139264

-- no more ever do
abbrev pub FewWait : Type 0
FewWait = (lab : Lab) (H : List Full) → IsTopology lab.topology → Grown lab H → length (waits lab.topology H) ≤ WAITS_MAX

-- the delivered entry goes, and those that the record made come
abbrev pub DeliveryExchanges : Type 0
DeliveryExchanges = (lab : Lab) (H : List Full) (r : Full) (k : ℕ) (x : Item) → Grown lab (r ∷ H) → r.delivered ≡ Some k
    → was_delivered k H ≡ false → slice_get (wire H) k ≡ Some x → (w : Item → ℕ)
    → sum_by w (undelivered_items (r ∷ H)) + w x ≡ sum_by w (undelivered_items H) + sum_by w (items_of r)
