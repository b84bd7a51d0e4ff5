use Rattle.td_ipv4.proofs.Words.{Udp4Fields, Writes, ap, arith, bit_and, length, made_bytes, made_udp4, subst, total_len, udp4_bytes, ◌%◌}
use Rattle.td_ipv4.proofs.maker.make.Goals as goal

pub write-requires-clause-whole : goal.write-requires-clause-whole
unfolding made_udp4
write-requires-clause-whole c = ap (λ (v : Udp4Fields). bit_and v.frag 0x3fff) c.datagram.ensures

pub write-requires-clause-words : goal.write-requires-clause-words
unfolding made_udp4
write-requires-clause-words c = ap (λ (v : Udp4Fields). length v.options % 4) c.datagram.ensures

pub write-requires-clause-options : goal.write-requires-clause-options
unfolding made_udp4
write-requires-clause-options c = omega (arith, ap (λ (v : Udp4Fields). length v.options) c.datagram.ensures)

pub write-requires-clause-total : goal.write-requires-clause-total
unfolding made_udp4
write-requires-clause-total c = omega (arith, c.requires, ap total_len c.datagram.ensures)

pub returns-clause-written : goal.returns-clause-written
unfolding made_bytes
returns-clause-written c = subst (λ (v : Udp4Fields). Writes (udp4_bytes v) c.args.out.now c.write.new.out c.write.result) c.datagram.ensures c.write.ensures.written
