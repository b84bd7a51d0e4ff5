use Rattle.theory_first_packets.proofs.LawProofs.{first_packet_arrives}
use Rattle.theory_first_packets.proofs.laws.first_packet_arrives.Goals as goal

pub returns : goal.returns
returns c = first_packet_arrives
