use Rattle.events.proofs.EventLaws.{answers_legal}
use Rattle.events.proofs.event_reader.read_event.Goals as goal

pub returns-clause-legal : goal.returns-clause-legal
returns-clause-legal c = answers_legal c.args.t.now c.args.text.now c.event_from.result c.event_from.ensures
