use Rattle.bubble.proofs.LawProofs.{bubble_reads_back}
use Rattle.bubble.proofs.laws.bubble_reads_back.Goals as goal

pub returns : goal.returns
returns c = bubble_reads_back
