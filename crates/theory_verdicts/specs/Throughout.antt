-- Right verdicts at each record of a history: what can be said of a history that was played.
use Rattle.std.specs.Prelude.{◌≡◌, ℕ, true, false, List, [], ◌∷◌, ◌++◌, Some}
use Rattle.std.specs.List.{AllByRecursion}
use Rattle.topology.specs.declared.client_node.ClientNode.{ClientNode}
use Rattle.topology.specs.Rules.{IsTopology}
use Rattle.topology.specs.Topology.{client_at}
use Rattle.events.specs.Events.{IsEvent}
use Rattle.events.specs.Scenario.{Scenario}
use Rattle.history.specs.Full.{Full}
use Rattle.legal.specs.Lab.{Lab, lab_of}
use Rattle.legal.specs.Legal.{Begun, Grown}
use Rattle.legal.specs.Honest.{are_honest_for}
use Rattle.theory_verdicts.specs.Undisturbed.{IsUndisturbed, IsKeptOpen}
use Rattle.theory_verdicts.specs.Right.{IsRight, IsRightWithoutCone}

-- after the latest record, of clients for which all records are honest
pub record HasRightVerdicts (lab : Lab) (H : List Full) : Type 0 where
  -- the verdict of each undisturbed client is right
  pub undisturbed : (n : ℕ) (c : ClientNode) → are_honest_for lab.topology c H ≡ true → client_at lab.topology n ≡ Some c
      → IsUndisturbed lab H n c → IsRight lab H n c
  -- so is that of each client without the cone phase whose NAT was kept open
  pub kept_open : (n : ℕ) (c : ClientNode) → are_honest_for lab.topology c H ≡ true → client_at lab.topology n ≡ Some c
      → c.cone_try ≡ false → IsKeptOpen lab H n c → IsRightWithoutCone lab H n c

-- after each record
abbrev pub HasRightVerdictsThroughout : Lab → List Full → Type 0
HasRightVerdictsThroughout lab H = (later : List Full) (r : Full) (before : List Full) → H ≡ later ++ r ∷ before → HasRightVerdicts lab (r ∷ before)

-- a history of a topology that keeps its rules, where no NAT is behind another one, has them throughout
abbrev pub HistoriesHaveRightVerdicts : Type 0
HistoriesHaveRightVerdicts = (lab : Lab) (H : List Full) → lab.chain ≡ [] → IsTopology lab.topology → Grown lab H → HasRightVerdictsThroughout lab H

-- so has each history of a scenario, as far as it was played
abbrev pub ScenariosHaveRightVerdicts : Type 0
ScenariosHaveRightVerdicts = (s : Scenario) (H : List Full) → IsTopology s.topology → AllByRecursion (IsEvent s.topology) s.events
    → Begun (lab_of s []) s.events H → HasRightVerdictsThroughout (lab_of s []) H
