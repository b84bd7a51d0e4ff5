use Rattle.player.proofs.LawProofs.{pieces_are_a_capture}
use Rattle.player.proofs.laws.pieces_are_a_capture.Goals as goal

pub returns : goal.returns
returns c = pieces_are_a_capture
