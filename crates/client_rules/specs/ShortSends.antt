-- What a client sends fits into a datagram, where what it was given are bytes.
use Rattle.std.specs.Prelude.{◌≤◌, length}
use Rattle.std.specs.List.{AllByRecursion}
use Rattle.td_base.specs.declared.datagram.TheConstants.{DATAGRAM_MAX}
use Rattle.teredo_node.specs.Step.{Send}
use Rattle.teredo_node.specs.Journal.{Entry, Journal, with_entry}
use Rattle.teredo_node.specs.MadeInputs.{IsMadeInput, AreMadeInputs}
use Rattle.qualify.specs.declared.settings.Settings.{Settings}
use Rattle.client_rules.specs.Journals.{IsJournal}
use Rattle.client_rules.specs.MadeSends.{IsMadeClient}

-- a datagram has at most 1,400 bytes
abbrev pub IsShortSend : Send → Type 0
IsShortSend send = length send.bytes ≤ DATAGRAM_MAX

-- and fits into a datagram
abbrev pub EachSendIsShort : Type 0
EachSendIsShort = (s : Settings) (j : Journal) (e : Entry) → IsJournal s (with_entry j e)
    → IsMadeClient s → IsMadeInput e.input → AreMadeInputs j.entries → AllByRecursion IsShortSend e.step.sends
