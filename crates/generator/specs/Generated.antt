-- The generated scenario.
use Rattle.std.specs.Prelude.{◌≡◌, ℕ, ◌+◌, ◌*◌, true, List}
use Rattle.events.specs.declared.event.Event.{Event}
use Rattle.events.specs.Scenario.{Scenario}
use Rattle.legal.specs.Lab.{draws}
use Rattle.legal.specs.Honest.{is_honest}
use Rattle.generator.specs.declared.words.TheConstants.{EVENTS_STREAM}
use Rattle.generator.specs.GeneratedNodes.{firsts, generated_nodes}
use Rattle.generator.specs.GeneratedEvent.{generated_event}

-- the words of the events: those that a node of the number 2^64 - 1 would have
abbrev pub event_word : ℕ → ℕ → ℕ
event_word seed k = draws seed EVENTS_STREAM k

-- event i, from the next three words
abbrev pub event_numbered : ℕ → ℕ → Event
event_numbered seed i = generated_event i (event_word seed (3 * i)) (event_word seed (3 * i + 1)) (event_word seed (3 * i + 2))

-- the first events
unfoldable pub generated_events : ℕ → ℕ → List Event
generated_events seed count = firsts (event_numbered seed) count

-- the scenario of a seed, with so many events
abbrev pub generated : ℕ → ℕ → Scenario
generated seed count = record { seed = seed; topology = generated_nodes; events = generated_events seed count }

-- it is honest: nobody in it says that it is a NAT, a server or a relay
abbrev pub EachGeneratedIsHonest : Type 0
EachGeneratedIsHonest = (seed count : ℕ) → is_honest (generated seed count) ≡ true
