use Rattle.events.proofs.Words.{rules}
use Rattle.events.proofs.event_list.Events.push.Goals as goal

pub returns-clause-ok : goal.returns-clause-ok
returns-clause-ok c = search rules
