-- What a record that follows says of its node: what it was given, and what it did.
use Rattle.std.specs.Prelude.{◌≡◌, ℕ, max, false, List, [], ◌∷◌, slice_get, Some, None}
use Rattle.td_base.specs.declared.endpoint.Ep.{Ep}
use Rattle.teredo_node.specs.Journal.{Input, given, ticked, Entry, with_entry}
use Rattle.topology.specs.declared.node.Node.{Node}
use Rattle.topology.specs.Topology.{node_at}
use Rattle.events.specs.declared.verb.Verb.{Verb}
use Rattle.history.specs.Full.{Item, Full, wire}
use Rattle.legal.specs.Lab.{Lab}
use Rattle.legal.specs.Past.{now, is_restart, forgotten, journal}
use Rattle.legal.specs.Emit.{reaches, route, entry_of, sendings, address_by, handed_by}
use Rattle.legal.specs.Next.{DueNode, no_ep, dst_of, input_of}
use Rattle.legal.specs.Kinds.{IsDue, Hands}
use Rattle.legal.specs.Legal.{Follows}

-- what a record's node was given, and at which moment: an entry of the wire that came to it, a packet of its host, or a tick
pub data IsGiven (lab : Lab) (H : List Full) (r : Full) (n : ℕ) (a : Node) (dst : Ep) (input : Input) : Type 0 where
  delivered : (number : ℕ) (x : Item) → r.delivered ≡ Some number → slice_get (wire H) number ≡ Some x → route lab H (now H) x ≡ reaches n a
      → r.moment ≡ now H → dst ≡ dst_of x → input ≡ input_of x → IsGiven lab H r n a dst input
  hosted : (v : Verb) (x : List ℕ) → Hands lab H r.asked v n x → r.delivered ≡ None
      → r.moment ≡ now H → dst ≡ no_ep → input ≡ given x → IsGiven lab H r n a dst input
  ticks : (x : DueNode) → IsDue lab H x → x.number ≡ n → r.delivered ≡ None
      → r.moment ≡ max x.moment (now H) → dst ≡ no_ep → input ≡ ticked → IsGiven lab H r n a dst input

-- *acts*: a record is of a node's act where it says what the node was given, and what it did after its journal so far.
-- the record is of node n, which is a, and e is what the node did. No node starts anew, and no NAT forgets anybody
pub record IsActOf (lab : Lab) (H : List Full) (r : Full) (n : ℕ) (a : Node) (e : Entry) : Type 0 where
  pub there : node_at lab.topology n ≡ Some a
  pub node : r.node ≡ Some n
  pub still : is_restart r.act ≡ false
  pub lasting : forgotten lab r.asked ≡ []
  pub dst : Ep
  pub input : Input
  pub is_given : IsGiven lab H r n a dst input
  pub step : e ≡ entry_of lab H r.moment n dst input a
  pub entry : r.entry ≡ Some e
  pub fate : r.fate ≡ e.step.fate
  pub later : journal n (r ∷ H) ≡ with_entry (journal n H) e
  pub address : r.address ≡ address_by lab H n e a
  pub handed : r.handed ≡ handed_by e
  pub late : r.late ≡ e.step.late
  pub made : r.made ≡ (sendings lab H r.moment e a).made
  pub passed : r.passed ≡ (sendings lab H r.moment e a).passed

-- no node does anything, or one does
pub data Acted (lab : Lab) (H : List Full) (r : Full) : Type 0 where
  idles : r.entry ≡ None → r.address ≡ None → r.handed ≡ None → r.late ≡ [] → r.passed ≡ [] → Acted lab H r
  does : (n : ℕ) (a : Node) (e : Entry) → IsActOf lab H r n a e → Acted lab H r

-- each record that follows is of no node, or of one, and says what it was given and did
abbrev pub EachActs : Type 0
EachActs = (lab : Lab) (H : List Full) (r : Full) → Follows lab H r → Acted lab H r
