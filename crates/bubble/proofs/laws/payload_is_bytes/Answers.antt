use Rattle.bubble.proofs.LawProofs.{payload_is_bytes}
use Rattle.bubble.proofs.laws.payload_is_bytes.Goals as goal

pub returns : goal.returns
returns c = payload_is_bytes
