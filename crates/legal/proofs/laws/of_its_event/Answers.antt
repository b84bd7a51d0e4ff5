use Rattle.legal.proofs.LawProofs.{of_its_event}
use Rattle.legal.proofs.laws.of_its_event.Goals as goal

pub returns : goal.returns
returns c = of_its_event
