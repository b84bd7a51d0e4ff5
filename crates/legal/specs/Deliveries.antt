-- What comes of a delivery: the entry comes to a node, which does something with it, or to nobody.
use Rattle.std.specs.Prelude.{◌≡◌, ◌≢◌, ℕ, false, List, [], ◌∷◌, ◌++◌, slice_get, Some, None}
use Rattle.std.specs.List.{AllByRecursion}
use Rattle.teredo_node.specs.declared.fate.Fate.{Fate}
use Rattle.teredo_node.specs.declared.fate.Fate.TheVariants as fate
use Rattle.teredo_node.specs.Journal.{Entry}
use Rattle.topology.specs.declared.node.Node.{Node}
use Rattle.topology.specs.Rules.{IsTopology}
use Rattle.topology.specs.Chains.{outs_at}
use Rattle.history.specs.Full.{Item, Full, wire, items_of}
use Rattle.legal.specs.Lab.{Lab}
use Rattle.legal.specs.Past.{now, is_restart, forgotten, journal, nat_history}
use Rattle.legal.specs.Emit.{Route, reaches, closed, route, entry_of}
use Rattle.legal.specs.Next.{dst_of, input_of}
use Rattle.legal.specs.Legal.{Grown}
use Rattle.legal.specs.Actors.{IsActOf}
use Rattle.legal.specs.OwnSends.{AreOwn}
use Rattle.legal.specs.MadeWire.{IsMadeItem}
use Rattle.legal.specs.Routes.{Reaches}

-- what node n, which is a, does with entry x
abbrev pub done_with : Lab → List Full → Full → ℕ → Node → Item → Entry
done_with lab H r n a x = entry_of lab H r.moment n (dst_of x) (input_of x) a

-- entry x came to node n, which is a, and the record is what the node did with it. What is on the wire is bytes where the topology
-- keeps its rules
pub record IsReached (lab : Lab) (H : List Full) (r : Full) (n : ℕ) (a : Node) (x : Item) : Type 0 where
  pub act : IsActOf lab H r n a (done_with lab H r n a x)
  pub moment : r.moment ≡ now H
  -- whence it came there
  pub leads : route lab H (now H) x ≡ reaches n a
  pub goes : Reaches lab H (now H) x n a
  pub came : IsTopology lab.topology → IsMadeItem x
  -- what it made
  pub own : AreOwn a (done_with lab H r n a x) r.made
  pub fresh : IsTopology lab.topology → AllByRecursion IsMadeItem (items_of r)
  -- no other node's journal changes, and to NATs' histories comes what they let out of it
  pub others : (k : ℕ) → k ≢ n → journal k (r ∷ H) ≡ journal k H
  pub nats : (k : ℕ) → k ≢ n → nat_history lab k (r ∷ H) ≡ outs_at k r.passed ++ nat_history lab k H

-- what became of an entry that reaches no node: a NAT is closed to it, or it goes astray
abbrev pub missed_fate : Route → Fate
missed_fate (closed k) = fate.NatClosed
missed_fate _ = fate.Nowhere

-- it came to nobody: no node did anything, and nothing came onto the wire. No node starts anew, and no NAT forgets anybody
pub record IsMissed (lab : Lab) (H : List Full) (r : Full) (x : Item) : Type 0 where
  pub nobody : (n : ℕ) (a : Node) → route lab H (now H) x ≢ reaches n a
  pub fate : r.fate ≡ missed_fate (route lab H (now H) x)
  pub moment : r.moment ≡ now H
  pub still : is_restart r.act ≡ false
  pub lasting : forgotten lab r.asked ≡ []
  pub entry : r.entry ≡ None
  pub address : r.address ≡ None
  pub handed : r.handed ≡ None
  pub late : r.late ≡ []
  pub made : r.made ≡ []
  pub passed : r.passed ≡ []
  pub journals : (k : ℕ) → journal k (r ∷ H) ≡ journal k H
  pub nats : (k : ℕ) → nat_history lab k (r ∷ H) ≡ nat_history lab k H

-- the entry of this number was delivered
pub data Delivery (lab : Lab) (H : List Full) (r : Full) (number : ℕ) : Type 0 where
  to_node : (n : ℕ) (a : Node) (x : Item) → slice_get (wire H) number ≡ Some x → IsReached lab H r n a x → Delivery lab H r number
  to_nobody : (x : Item) → slice_get (wire H) number ≡ Some x → IsMissed lab H r x → Delivery lab H r number

-- a record that delivers an entry is what a node does with it, or the entry comes to nobody and nothing comes of it
abbrev pub EachDelivery : Type 0
EachDelivery = (lab : Lab) (H : List Full) (r : Full) (number : ℕ) → Grown lab (r ∷ H) → r.delivered ≡ Some number → Delivery lab H r number
