use Rattle.td_pcap.proofs.LawProofs.{head_reads_back}
use Rattle.td_pcap.proofs.laws.head_reads_back.Goals as goal

pub returns : goal.returns
returns c = head_reads_back
