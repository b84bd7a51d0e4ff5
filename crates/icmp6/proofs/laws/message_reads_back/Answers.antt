use Rattle.icmp6.proofs.LawProofs.{message_reads_back}
use Rattle.icmp6.proofs.laws.message_reads_back.Goals as goal

pub returns : goal.returns
returns c = message_reads_back
