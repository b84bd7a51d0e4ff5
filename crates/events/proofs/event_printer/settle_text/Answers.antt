use Rattle.events.proofs.SpellingLaws.{settle_read}
use Rattle.events.proofs.event_printer.settle_text.Goals as goal

pub returns-clause-again : goal.returns-clause-again
returns-clause-again c = λ t. settle_read t c.begin.result c.begin.ensures
