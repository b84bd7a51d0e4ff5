use Rattle.bubble.proofs.LawProofs.{packet_is_payload}
use Rattle.bubble.proofs.laws.packet_is_payload.Goals as goal

pub returns : goal.returns
returns c = packet_is_payload
