use Rattle.server_core.proofs.LawProofs.{advert_reads_back}
use Rattle.server_core.proofs.laws.advert_reads_back.Goals as goal

pub returns : goal.returns
returns c = advert_reads_back
