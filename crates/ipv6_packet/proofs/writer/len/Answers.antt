use Rattle.ipv6_packet.proofs.Words.{arith, packet_view, sym}
use Rattle.ipv6_packet.proofs.PacketLaws.{packet_len, version_first}
use Rattle.ipv6_packet.proofs.writer.len.Goals as goal

pub returns-clause-whole : goal.returns-clause-whole
returns-clause-whole c = sym (packet_len (packet_view c.args.p.now) (omega arith) (omega arith))

pub returns-clause-version : goal.returns-clause-version
returns-clause-version c = λ flow. version_first (packet_view c.args.p.now) (omega arith) flow
