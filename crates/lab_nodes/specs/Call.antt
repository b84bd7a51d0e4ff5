-- What is asked of a node.
use Rattle.std.specs.Prelude.{◌≤◌, List, length}
use Rattle.td_base.specs.declared.endpoint.Ep.{Ep}
use Rattle.teredo_node.specs.Journal.{Input, arrived, given, from_six, ticked, Entry}
use Rattle.td_base.specs.declared.datagram.TheConstants.{DATAGRAM_MAX}
use Rattle.topology.specs.declared.node.Node.{Node}
use Rattle.history.specs.Full.{Full}
use Rattle.legal.specs.Lab.{Lab}
use Rattle.legal.specs.Emit.{entry_of}
use Rattle.legal.specs.Next.{no_ep}
use Rattle.lab_nodes.specs.declared.input.Input.{Input as LentInput}
use Rattle.lab_nodes.specs.declared.input.Input.TheVariants.{Arrived, Given, FromSix, Ticked}
use Rattle.lab_nodes.specs.declared.call.Call.{Call}

-- what comes
abbrev pub input_lent : LentInput → Input
input_lent (Arrived src dst bytes) = arrived src bytes.now
input_lent (Given bytes) = given bytes.now
input_lent (FromSix bytes) = from_six bytes.now
input_lent Ticked = ticked

-- the endpoint that it was sent to
abbrev pub dst_lent : LentInput → Ep
dst_lent (Arrived src dst bytes) = dst
dst_lent _ = no_ep

-- no more bytes come than an event or a node may give
abbrev pub IsShortInput : Input → Type 0
IsShortInput (arrived from x) = length x ≤ DATAGRAM_MAX
IsShortInput (given x) = length x ≤ DATAGRAM_MAX
IsShortInput (from_six x) = length x ≤ DATAGRAM_MAX
IsShortInput ticked = Unit {0}

-- the entry of a call in the journal of the node with this row
abbrev pub entry_in : Lab → List Full → Call → Node → Entry
entry_in lab H x a = entry_of lab H x.now.0 x.node (dst_lent x.input) (input_lent x.input) a
