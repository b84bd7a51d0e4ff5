use Rattle.loads.proofs.LawProofs.{known_is_image}
use Rattle.loads.proofs.laws.known_is_image.Goals as goal

pub returns : goal.returns
returns c = known_is_image
