use Rattle.bubble.proofs.LawProofs.{message_is_carried}
use Rattle.bubble.proofs.laws.message_is_carried.Goals as goal

pub returns : goal.returns
returns c = message_is_carried
