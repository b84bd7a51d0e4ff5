-- What a scenario says.
use Rattle.events.specs.Scenario.{Scenario}
use Rattle.scenario.specs.declared.reader.Scenario.{Scenario as CodeScenario}

-- a scenario as the definitions have it
abbrev pub told : CodeScenario → Scenario
told s = record { seed = s.seed; topology = s.topology; events = s.events }
