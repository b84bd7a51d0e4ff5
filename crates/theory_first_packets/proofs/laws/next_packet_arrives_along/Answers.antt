use Rattle.theory_first_packets.proofs.LawProofs.{next_packet_arrives_along}
use Rattle.theory_first_packets.proofs.laws.next_packet_arrives_along.Goals as goal

pub returns : goal.returns
returns c = next_packet_arrives_along
