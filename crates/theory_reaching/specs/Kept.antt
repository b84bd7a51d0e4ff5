-- What the words on the hosts of one laboratory promise after one history: each keeps its promise, and some say more of it.
use Rattle.std.specs.Prelude.{List}
use Rattle.topology.specs.Rules.{IsTopology}
use Rattle.history.specs.Full.{Full}
use Rattle.legal.specs.Lab.{Lab}
use Rattle.legal.specs.Legal.{Grown}
use Rattle.theory_ways.specs.Ways.{IsChained}
use Rattle.theory_reaching.specs.declared.word.Reach.{Reach}
use Rattle.theory_reaching.specs.Promises.{KeepsItsPromiseIn}
use Rattle.theory_reaching.specs.Away.{AwayBringsNothingIn}
use Rattle.theory_reaching.specs.Silent.{OffMakesNothingIn, BarredSenderIsSilentIn}

-- whichever word it is, on whichever two hosts
pub record WordsKept (lab : Lab) (H : List Full) : Type 0 where
  pub each : (said : Reach) → KeepsItsPromiseIn lab H said
  pub off : OffMakesNothingIn lab H
  pub away : AwayBringsNothingIn lab H
  pub barred : BarredSenderIsSilentIn lab H

-- in each history of a topology that keeps its rules, with a chain that does
abbrev pub WordsAreKept : Type 0
WordsAreKept = (lab : Lab) (H : List Full) → IsTopology lab.topology → IsChained lab → Grown lab H → WordsKept lab H
