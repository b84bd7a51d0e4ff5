use Rattle.relay_rules.proofs.LawProofs.{journal_has_few}
use Rattle.relay_rules.proofs.laws.journal_has_few.Goals as goal

pub returns : goal.returns
returns c = journal_has_few
