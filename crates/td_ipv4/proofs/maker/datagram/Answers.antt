use Rattle.td_ipv4.proofs.Words.{Udp4Fields, ap, head_checksum, made_udp4, udp_checksum}
use Rattle.td_ipv4.proofs.maker.datagram.Goals as goal

pub returns : goal.returns
unfolding made_udp4
returns c =
    let with_sums : Udp4Fields → Udp4Fields = λ v. record v { head_sum = head_checksum v; udp_sum = udp_checksum v } in
    rw (c.head_checksum.ensures, c.udp_checksum.ensures) (ap with_sums c.plain-plain.ensures)
