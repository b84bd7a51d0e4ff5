-- What a relay sends are bytes, and not too many, of packets from outside Teredo, to endpoints that datagrams have, where what it
-- was given are bytes.
use Rattle.std.specs.Prelude.{◌≡◌, ◌≤◌, ◌∷◌, false, List, length}
use Rattle.std.specs.List.{AllByRecursion}
use Rattle.td_base.specs.Bytes.{IsBytes}
use Rattle.td_base.specs.declared.datagram.TheConstants.{DATAGRAM_MAX}
use Rattle.td_base.specs.Ip6.{IsIp6}
use Rattle.td_base.specs.Ep.{IsEp}
use Rattle.teredo_addr.specs.Teredo.{is_teredo}
use Rattle.bubble.specs.Reads.{value_in}
use Rattle.teredo_node.specs.Step.{Send}
use Rattle.teredo_node.specs.Journal.{Entry}
use Rattle.relay_rules.specs.Standing.{RelaySettings}
use Rattle.relay_rules.specs.Journals.{IsRelayJournal}
use Rattle.teredo_node.specs.MadeInputs.{IsMadeInput, AreMadeInputs}

-- a relay's own address is made of bytes, and isn't a Teredo address
pub record IsMadeRelay (s : RelaySettings) : Type 0 where
  pub six : IsIp6 s.six
  pub native : is_teredo s.six ≡ false

-- a datagram of bytes, of at most 1,400, to an endpoint, whose packet is from outside Teredo
pub record IsForeignSend (send : Send) : Type 0 where
  pub to : IsEp send.to
  pub bytes : IsBytes send.bytes
  pub short : length send.bytes ≤ DATAGRAM_MAX
  pub foreign : is_teredo (value_in send.bytes).packet.src ≡ false

-- what a relay sends are bytes that fit into a datagram, of packets from outside Teredo, to endpoints that datagrams
-- have, where what it was given are bytes
abbrev pub EachSendIsForeign : Type 0
EachSendIsForeign = (s : RelaySettings) (j : List Entry) (e : Entry) → IsRelayJournal s (e ∷ j) → IsMadeRelay s
    → IsMadeInput e.input → AreMadeInputs j → AllByRecursion IsForeignSend e.step.sends
