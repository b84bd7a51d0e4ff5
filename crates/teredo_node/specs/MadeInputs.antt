-- What a node was given as datagrams have it: bytes, from an endpoint.
use Rattle.std.specs.Prelude.{◌≤◌, List, length}
use Rattle.std.specs.List.{AllByRecursion}
use Rattle.td_base.specs.Bytes.{IsBytes}
use Rattle.td_base.specs.Ep.{IsEp}
use Rattle.td_base.specs.declared.datagram.TheConstants.{DATAGRAM_MAX}
use Rattle.teredo_node.specs.Step.{Send}
use Rattle.teredo_node.specs.Journal.{Input, arrived, given, from_six, ticked, Entry}

-- an input is of bytes, from an endpoint that datagrams have
abbrev pub IsMadeInput : Input → Type 0
IsMadeInput (arrived from x) = IsEp from × IsBytes x
IsMadeInput (given x) = IsBytes x
IsMadeInput (from_six x) = IsBytes x
IsMadeInput ticked = Unit {0}

-- all inputs of a journal
abbrev pub AreMadeInputs : List Entry → Type 0
AreMadeInputs j = AllByRecursion (λ (e : Entry). IsMadeInput e.input) j

-- what is sent are bytes, and not too many
pub record IsMadeSend (send : Send) : Type 0 where
  pub bytes : IsBytes send.bytes
  pub short : length send.bytes ≤ DATAGRAM_MAX
