use Rattle.bubble.proofs.LawProofs.{spelled_payload_is_read}
use Rattle.bubble.proofs.laws.spelled_payload_is_read.Goals as goal

pub returns : goal.returns
returns c = spelled_payload_is_read
