use Rattle.events.proofs.SpellingLaws.{next_read}
use Rattle.events.proofs.event_printer.next_text.Goals as goal

pub returns-clause-again : goal.returns-clause-again
returns-clause-again c = λ t. next_read t c.begin.result c.begin.ensures
