use Rattle.client_rules.proofs.LawProofs.{none_queued}
use Rattle.client_rules.proofs.laws.none_queued.Goals as goal

pub returns : goal.returns
returns c = none_queued
