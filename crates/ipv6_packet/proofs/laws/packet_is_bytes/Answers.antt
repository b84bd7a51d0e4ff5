use Rattle.ipv6_packet.proofs.LawProofs.{packet_is_bytes}
use Rattle.ipv6_packet.proofs.laws.packet_is_bytes.Goals as goal

pub returns : goal.returns
returns c = packet_is_bytes
