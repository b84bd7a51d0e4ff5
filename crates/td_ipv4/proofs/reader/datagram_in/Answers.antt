use Rattle.td_ipv4.proofs.Words.{refl, take_rest, udp4_fields, ◌+◌}
use Rattle.td_ipv4.proofs.reader.datagram_in.Goals as goal

pub returns-clause-exact : goal.returns-clause-exact
unfolding udp4_fields
returns-clause-exact c =
    let rest = take_rest c.args.bytes.now (c.args.place + 8) in
    rw (c.field16.ensures, c.field16-2.ensures, c.field16-3.ensures, c.field16-4.ensures, c.ep_at.ensures, c.ep_at-2.ensures, rest) refl
