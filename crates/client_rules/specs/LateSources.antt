-- What is handed over late is from outside Teredo.
use Rattle.std.specs.Prelude.{◌≡◌, false}
use Rattle.std.specs.List.{AllByRecursion}
use Rattle.ipv6_packet.specs.Reads.{fields_in}
use Rattle.teredo_addr.specs.Teredo.{is_teredo}
use Rattle.teredo_node.specs.Journal.{Entry, Journal, with_entry}
use Rattle.qualify.specs.declared.settings.Settings.{Settings}
use Rattle.client_rules.specs.Journals.{IsJournal}

-- and is from outside Teredo
abbrev pub EachLateIsForeign : Type 0
EachLateIsForeign = (s : Settings) (j : Journal) (e : Entry) → IsJournal s (with_entry j e)
    → AllByRecursion (λ x. is_teredo (fields_in x).src ≡ false) e.step.late
