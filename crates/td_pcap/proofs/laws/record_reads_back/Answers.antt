use Rattle.td_pcap.proofs.LawProofs.{record_reads_back}
use Rattle.td_pcap.proofs.laws.record_reads_back.Goals as goal

pub returns : goal.returns
returns c = record_reads_back
