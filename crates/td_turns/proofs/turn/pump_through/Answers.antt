use Rattle.td_turns.proofs.Words.{rules}
use Rattle.td_turns.proofs.turn.pump_through.Goals as goal

pub returns-in_default-clause-turn : goal.returns-in_default-clause-turn
returns-in_default-clause-turn g c = search rules

pub returns-in_default-clause-frugal : goal.returns-in_default-clause-frugal
returns-in_default-clause-frugal g c = search rules

pub returns-in_default-clause-receives : goal.returns-in_default-clause-receives
returns-in_default-clause-receives g c = search rules

pub returns-then-is_err-clause-left : goal.returns-then-is_err-clause-left
returns-then-is_err-clause-left g c = search rules
