use Rattle.server_core.proofs.LawProofs.{forwarded_reads_back}
use Rattle.server_core.proofs.laws.forwarded_reads_back.Goals as goal

pub returns : goal.returns
returns c = forwarded_reads_back
