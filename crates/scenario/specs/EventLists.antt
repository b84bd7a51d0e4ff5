-- The events of a text, or why the text is refused.
use Rattle.std.specs.Prelude.{ℕ, ◌+◌, nat_le, if◌then◌else◌, List, [], ◌∷◌, length, codes, Option, Some, option_and_then, option_map, Result, Ok, Err}
use Rattle.toml.specs.Data.{as_str, Items, no_items, item, Members}
use Rattle.td_base.specs.Results.{◌>>=◌}
use Rattle.events.specs.declared.event.Event.{Event}
use Rattle.topology.specs.Rows.{TopologyState}
use Rattle.events.specs.EventText.{event_of}
use Rattle.scenario.specs.declared.scenario_fault.ScenarioFault.{ScenarioFault}
use Rattle.scenario.specs.declared.scenario_fault.ScenarioFault.TheVariants as fault
use Rattle.events.specs.declared.event.TheConstants.{EVENTS_MAX}
use Rattle.scenario.specs.declared.place.Place.TheVariants as place
use Rattle.scenario.specs.Paths.{key_path}
use Rattle.scenario.specs.Keys.{typed, list_at}

-- the texts of a list, where each value is one
abbrev pub texts_of : Items → Option (List (List ℕ))
texts_of no_items = Some []
texts_of (item value more) = option_and_then (λ text. option_map (λ texts. text ∷ texts) (texts_of more)) (as_str value)

-- the event, or the refusal of the text of this number
abbrev pub event_at : ℕ → Result Event ℕ → Result Event ScenarioFault
event_at index (Ok event) = Ok event
event_at index (Err place) = Err (fault.EventText index place)

-- the events of texts in order, the first of which has this number
abbrev pub each_event : TopologyState → ℕ → List (List ℕ) → Result (List Event) ScenarioFault
each_event t index [] = Ok []
each_event t index (text ∷ more) = do
  event ← event_at index (event_of t text)
  events ← each_event t (index + 1) more
  Ok (event ∷ events)

-- the events of texts that aren't too many
abbrev pub few_events : TopologyState → List (List ℕ) → Result (List Event) ScenarioFault
few_events t texts = if nat_le (length texts) EVENTS_MAX then each_event t 0 texts else Err (fault.Range (key_path place.Text (codes "events")))

-- the events of the list of texts
unfoldable pub events_of : TopologyState → Members → Result (List Event) ScenarioFault
events_of t table = do
  values ← list_at place.Text (codes "events") table
  texts ← typed place.Text (codes "events") (texts_of values)
  few_events t texts
