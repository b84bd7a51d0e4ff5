-- What a client sends goes to an endpoint that datagrams have, where what it was given came from such ones.
use Rattle.std.specs.List.{AllByRecursion}
use Rattle.td_base.specs.Ip4.{IsIp4}
use Rattle.td_base.specs.Ep.{IsEp}
use Rattle.teredo_node.specs.Step.{Send}
use Rattle.teredo_node.specs.Journal.{Entry, Journal, with_entry}
use Rattle.teredo_node.specs.MadeInputs.{IsMadeInput, AreMadeInputs}
use Rattle.qualify.specs.declared.settings.Settings.{Settings}
use Rattle.client_rules.specs.Journals.{IsJournal}
use Rattle.client_rules.specs.MadeSends.{IsMadeClient}

-- a datagram goes to an endpoint that datagrams have
abbrev pub GoesToEndpoint : Send → Type 0
GoesToEndpoint send = IsEp send.to

-- both addresses of its server are asked
abbrev pub EachSendGoesToEndpoint : Type 0
EachSendGoesToEndpoint = (s : Settings) (j : Journal) (e : Entry) → IsJournal s (with_entry j e) → IsMadeClient s → IsIp4 s.secondary
    → IsMadeInput e.input → AreMadeInputs j.entries → AllByRecursion GoesToEndpoint e.step.sends
