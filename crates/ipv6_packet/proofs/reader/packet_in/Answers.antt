use Rattle.ipv6_packet.proofs.Words.{take_rest}
use Rattle.ipv6_packet.proofs.ReadLemmas.{fields_are}
use Rattle.ipv6_packet.proofs.reader.packet_in.Goals as goal

pub returns-clause-exact : goal.returns-clause-exact
returns-clause-exact c =
    let x = c.args.bytes.now in
    fields_are x c.field32-word.result c.ip6_at.result c.ip6_at-2.result _ c.field32-word.ensures (take_rest x 40) c.ip6_at.ensures c.ip6_at-2.ensures
