use Rattle.td_ipv4.proofs.LawProofs.{udp4_reads_back}
use Rattle.td_ipv4.proofs.laws.udp4_reads_back.Goals as goal

pub returns : goal.returns
returns c = udp4_reads_back
