use Rattle.bubble.proofs.LawProofs.{packet_goes_on}
use Rattle.bubble.proofs.laws.packet_goes_on.Goals as goal

pub returns : goal.returns
returns c = packet_goes_on
