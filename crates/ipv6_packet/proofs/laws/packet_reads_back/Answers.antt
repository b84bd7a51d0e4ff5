use Rattle.ipv6_packet.proofs.LawProofs.{packet_reads_back}
use Rattle.ipv6_packet.proofs.laws.packet_reads_back.Goals as goal

pub returns : goal.returns
returns c = packet_reads_back
