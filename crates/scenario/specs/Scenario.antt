-- The scenario that a text is, or its first refusal.
use Rattle.std.specs.Prelude.{ℕ, nat_lt, if◌then◌else◌, List, length, codes, Option, None, ok_or, Result, Ok, Err}
use Rattle.std.specs.Str.{is_utf8}
use Rattle.toml.specs.Data.{Members}
use Rattle.toml.specs.Parse.{parse_document}
use Rattle.td_base.specs.Results.{◌>>=◌}
use Rattle.events.specs.Scenario.{Scenario}
use Rattle.scenario.specs.declared.reader.TheConstants.{TEXT_MAX}
use Rattle.scenario.specs.declared.scenario_fault.ScenarioFault.{ScenarioFault}
use Rattle.scenario.specs.declared.scenario_fault.ScenarioFault.TheVariants as fault
use Rattle.scenario.specs.declared.place.Place.TheVariants as place
use Rattle.scenario.specs.NodeKinds.{scenario_keys}
use Rattle.scenario.specs.Keys.{only_keys, whole_number_at}
use Rattle.scenario.specs.Fresh.{natural}
use Rattle.scenario.specs.NodeTables.{nodes_of}
use Rattle.scenario.specs.EventLists.{events_of}

-- the scenario of a table: no unknown key, and then the keys in order
unfoldable pub scenario_in : Members → Result Scenario ScenarioFault
scenario_in table = do
  only ← only_keys scenario_keys place.Text table
  seed ← whole_number_at place.Text (codes "seed") natural table
  topology ← nodes_of table
  events ← events_of topology table
  Ok (record { seed = seed; topology = topology; events = events })

-- the table that a text is in TOML, which is written in UTF-8
abbrev pub document_of : List ℕ → Option Members
document_of text = if is_utf8 text then parse_document text else None

-- the scenario that a text of any length is
abbrev pub written : List ℕ → Result Scenario ScenarioFault
written text = ok_or (document_of text) fault.NotToml >>= scenario_in

-- the scenario that a text is, or the first of the refusals that apply
unfoldable pub scenario_of : List ℕ → Result Scenario ScenarioFault
scenario_of text = if nat_lt TEXT_MAX (length text) then Err fault.TooLong else written text
