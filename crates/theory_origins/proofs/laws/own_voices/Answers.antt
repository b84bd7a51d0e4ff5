use Rattle.theory_origins.proofs.LawProofs.{own_voices}
use Rattle.theory_origins.proofs.laws.own_voices.Goals as goal

pub returns : goal.returns
returns c = own_voices
