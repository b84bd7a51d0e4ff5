use Rattle.client_core.proofs.Words.{rules, test}
use Rattle.client_core.proofs.tries.send_test.Goals as goal

pub returns-clause-step : goal.returns-clause-step
unfolding test
returns-clause-step c = search rules
