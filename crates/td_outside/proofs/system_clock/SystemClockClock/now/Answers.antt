use Rattle.td_outside.proofs.Words.{rules}
use Rattle.td_outside.proofs.system_clock.SystemClockClock.now.Goals as goal

pub returns-clause-later : goal.returns-clause-later
returns-clause-later g c = search rules
