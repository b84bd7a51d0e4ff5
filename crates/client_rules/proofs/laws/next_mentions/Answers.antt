use Rattle.client_rules.proofs.LawProofs.{next_mentions}
use Rattle.client_rules.proofs.laws.next_mentions.Goals as goal

pub returns : goal.returns
returns c = next_mentions
