use Rattle.client_rules.proofs.LawProofs.{journal_is_tried}
use Rattle.client_rules.proofs.laws.journal_is_tried.Goals as goal

pub returns : goal.returns
returns c = journal_is_tried
