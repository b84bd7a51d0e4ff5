-- Laboratories in which NATs stand behind others: which there are, and what they aren't asked for.
use Rattle.std.specs.Prelude.{◌≡◌, ◌||◌, nat_lt, Bool, true, false, ℕ, List, [], length, codes, Some, None}
use Rattle.topology.specs.Rows.{TopologyState}
use Rattle.topology.specs.Chains.{Behind}
use Rattle.events.specs.declared.event.Event.{Event}
use Rattle.events.specs.declared.event.Event.TheVariants as event
use Rattle.td_chain.specs.ChainText.{chain_asked}
use Rattle.td_nested.specs.declared.nested_fault.NestedFault.{NestedFault}
use Rattle.td_nested.specs.declared.nested_fault.NestedFault.TheVariants.{Chain, Nodes, NoMemory}

-- there is a relay or a native host
abbrev pub has_six_side : TopologyState → Bool
has_six_side t = nat_lt 0 (length t.relays) || nat_lt 0 (length t.natives)

-- There is such a laboratory with this chain: the text asks for it, and no node is a relay or a native host.
pub record IsNested (t : TopologyState) (text : List ℕ) (chain : List Behind) : Type 0 where
  pub asked : chain_asked t text ≡ Some chain
  pub plain : has_six_side t ≡ false

-- by the text `-` no NAT is behind another one
abbrev pub DashIsFlat : Type 0
DashIsFlat = (t : TopologyState) (chain : List Behind) → IsNested t (codes "-") chain → chain ≡ []

-- A reason against it is due: the first of the two that applies. Want of memory says nothing of the text and the nodes.
abbrev pub IsDueFault : TopologyState → List ℕ → NestedFault → Type 0
IsDueFault t text Chain = chain_asked t text ≡ None
IsDueFault t text Nodes = ((chain : List Behind) × (chain_asked t text ≡ Some chain)) × (has_six_side t ≡ true)
IsDueFault t text NoMemory = Unit {0}

-- such a laboratory isn't asked for this
abbrev pub is_left_out : Event → Bool
is_left_out (event.Forget n who) = true
is_left_out (event.Fault send) = true
is_left_out event.Settle = true
is_left_out _ = false
