use Rattle.scenario.proofs.Words.{arith}
use Rattle.scenario.proofs.EventsSoFar.{long_events, short_events}
use Rattle.scenario.proofs.event_lists.few_events.Goals as goal

pub returns-then-texts-gt-EVENTS_MAX-clause-value : goal.returns-then-texts-gt-EVENTS_MAX-clause-value
returns-then-texts-gt-EVENTS_MAX-clause-value c = λ ts is h. rw c.key_path.ensures (long_events c.args.topology.now c.args.texts.now ts is (omega arith))

pub returns-clause-value : goal.returns-clause-value
returns-clause-value c = λ ts is. rw (short_events c.args.topology.now c.args.texts.now ts is (omega arith)) (c.each_event.ensures.value ts is)
