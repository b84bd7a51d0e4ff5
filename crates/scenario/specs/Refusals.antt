-- The line of a refused text.
use Rattle.std.specs.Prelude.{ℕ, List, [], ◌++◌, codes, decimal}
use Rattle.scenario.specs.declared.scenario_fault.ScenarioFault.{ScenarioFault}
use Rattle.scenario.specs.declared.scenario_fault.ScenarioFault.TheVariants as fault

-- the line of a refusal at a path
abbrev pub line_at : List ℕ → List ℕ → List ℕ
line_at path said = codes "scenario " ++ (path ++ said)

-- the line of a refusal; want of memory is none
unfoldable pub refusal_line : ScenarioFault → List ℕ
refusal_line fault.TooLong = codes "scenario: too long\n"
refusal_line fault.NotToml = codes "scenario: not toml\n"
refusal_line (fault.Key path) = line_at path (codes ": key\n")
refusal_line (fault.Kind path) = line_at path (codes ": kind\n")
refusal_line (fault.Range path) = line_at path (codes ": range\n")
refusal_line (fault.Name path) = line_at path (codes ": name\n")
refusal_line (fault.EventText index place) = codes "scenario events[" ++ (decimal index ++ (codes "] at " ++ (decimal place ++ codes ": event\n")))
refusal_line fault.NoMemory = []
