-- What a reader of the code answers, for contracts.
use Rattle.std.specs.Prelude.{◌≡◌, ◌≢◌, Result, Ok, Err}
use Rattle.scenario.specs.declared.scenario_fault.ScenarioFault.{ScenarioFault}
use Rattle.scenario.specs.declared.scenario_fault.ScenarioFault.TheVariants.{NoMemory}

-- The answer, seen by view, is what the definition gives, the refusal with it; or memory ran out.
abbrev pub IsReadAs : {X Y : Type 0} → (X → Y) → Result X ScenarioFault → Result Y ScenarioFault → Type 0
IsReadAs view (Ok x) read = read ≡ Ok (view x)
IsReadAs view (Err e) read = e ≢ NoMemory → read ≡ Err e
