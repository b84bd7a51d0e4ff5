use Rattle.theory_first_packets.proofs.LawProofs.{first_packet_arrives_along}
use Rattle.theory_first_packets.proofs.laws.first_packet_arrives_along.Goals as goal

pub returns : goal.returns
returns c = first_packet_arrives_along
