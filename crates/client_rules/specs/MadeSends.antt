-- What a client sends are bytes, where what it was given are, and the addresses that it knows are made.
use Rattle.std.specs.Prelude.{IfSome}
use Rattle.std.specs.List.{AllByRecursion}
use Rattle.td_base.specs.Bytes.{IsBytes}
use Rattle.td_base.specs.Ip4.{IsIp4}
use Rattle.td_base.specs.Ip6.{IsIp6}
use Rattle.td_base.specs.Ep.{IsEp}
use Rattle.teredo_node.specs.Step.{Send}
use Rattle.teredo_node.specs.Journal.{Entry, Journal, with_entry}
use Rattle.teredo_node.specs.MadeInputs.{IsMadeInput, AreMadeInputs}
use Rattle.qualify.specs.declared.settings.Settings.{Settings}
use Rattle.qualify.specs.Qualification.{qualification}
use Rattle.client_rules.specs.Journals.{IsJournal}

-- a client's addresses are made
pub record IsMadeClient (s : Settings) : Type 0 where
  pub inside : IsEp s.inside
  pub primary : IsIp4 s.primary

-- the client's address is made, and that of the peer whom an entry is about
pub record IsMadeStanding (s : Settings) (j : Journal) (e : Entry) : Type 0 where
  pub address : IfSome (qualification s j).address IsIp6
  pub peer : IfSome e.peer IsIp6

-- the client's address is made, and each peer's, where what it was given is
abbrev pub EachStandingIsMade : Type 0
EachStandingIsMade = (s : Settings) (j : Journal) (e : Entry) → IsJournal s (with_entry j e) → IsMadeClient s → IsMadeInput e.input
    → AreMadeInputs j.entries → IsMadeStanding s j e

-- a datagram's body is made of bytes
abbrev pub IsBytesSend : Send → Type 0
IsBytesSend send = IsBytes send.bytes

-- what a client sends are bytes, where what it was given are
abbrev pub EachSendIsBytes : Type 0
EachSendIsBytes = (s : Settings) (j : Journal) (e : Entry) → IsJournal s (with_entry j e) → IsMadeClient s → IsMadeInput e.input
    → AreMadeInputs j.entries → AllByRecursion IsBytesSend e.step.sends
