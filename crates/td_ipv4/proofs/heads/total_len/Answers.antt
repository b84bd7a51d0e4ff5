use Rattle.td_ipv4.proofs.Words.{arith, udp4_view}
use Rattle.td_ipv4.proofs.AgainLaws.{udp4_len}
use Rattle.td_ipv4.proofs.heads.total_len.Goals as goal

pub returns-clause-whole : goal.returns-clause-whole
returns-clause-whole c = omega (arith, c.udp_len.ensures, udp4_len (udp4_view c.args.u.now) (omega arith) (omega arith))
