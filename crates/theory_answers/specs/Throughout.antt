-- What a question tells of a client's NATs, at each record of a history.
use Rattle.std.specs.Prelude.{◌≡◌, ◌⊎◌, ℕ, true, false, List, ◌∷◌, ◌++◌, Some}
use Rattle.topology.specs.declared.client_node.ClientNode.{ClientNode}
use Rattle.topology.specs.Rules.{IsTopology}
use Rattle.topology.specs.Topology.{client_at}
use Rattle.history.specs.Full.{Full}
use Rattle.legal.specs.Lab.{Lab}
use Rattle.legal.specs.Legal.{Grown}
use Rattle.legal.specs.Honest.{are_honest_for}
use Rattle.theory_ways.specs.Ways.{IsChained}
use Rattle.theory_ways.specs.UndisturbedAlong.{IsUndisturbedAlong, IsKeptOpenAlong}
use Rattle.theory_answers.specs.Asks.{is_question}
use Rattle.theory_answers.specs.Questions.{IsAnsweredAtOnce, comes_of, DrawsWords}

-- where the latest record delivers an answer at once, its fate is the one that the question and the client's NATs give it
abbrev pub TellsAtOnce : Lab → List Full → Type 0
TellsAtOnce lab H = (before waits : List Full) (asks serves hears : Full) → H ≡ hears ∷ serves ∷ (waits ++ asks ∷ before)
    → (n : ℕ) (c : ClientNode) → are_honest_for lab.topology c H ≡ true → client_at lab.topology n ≡ Some c
    → IsUndisturbedAlong lab H n c ⊎ ((c.cone_try ≡ false) × IsKeptOpenAlong lab H n c)
    → IsAnsweredAtOnce asks waits serves hears n → is_question asks.fate ≡ true → hears.fate ≡ comes_of lab c asks.fate

-- after each record
abbrev pub TellsAtOnceThroughout : Lab → List Full → Type 0
TellsAtOnceThroughout lab H = (later before : List Full) → H ≡ later ++ before → TellsAtOnce lab before

-- of each history of a topology that keeps its rules, and of a chain that does, whose nodes draw words of 32 bits
abbrev pub HistoriesTellAtOnce : Type 0
HistoriesTellAtOnce = (lab : Lab) (H : List Full) → IsTopology lab.topology → IsChained lab → DrawsWords lab → Grown lab H → TellsAtOnceThroughout lab H
