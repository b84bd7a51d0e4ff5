use Rattle.theory_first_packets.proofs.LawProofs.{next_packet_arrives}
use Rattle.theory_first_packets.proofs.laws.next_packet_arrives.Goals as goal

pub returns : goal.returns
returns c = next_packet_arrives
