use Rattle.bubble.proofs.LawProofs.{payload_reads_back}
use Rattle.bubble.proofs.laws.payload_reads_back.Goals as goal

pub returns : goal.returns
returns c = payload_reads_back
