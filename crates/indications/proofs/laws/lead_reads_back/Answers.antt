use Rattle.indications.proofs.LawProofs.{lead_reads_back}
use Rattle.indications.proofs.laws.lead_reads_back.Goals as goal

pub returns : goal.returns
returns c = lead_reads_back
