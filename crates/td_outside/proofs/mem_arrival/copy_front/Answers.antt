use Rattle.td_outside.proofs.Words.{DATAGRAM_MAX, arith, common_steps}
use Rattle.td_outside.proofs.Fronts.{cut}
use Rattle.td_outside.proofs.mem_arrival.copy_front.Goals as goal

pub returns-clause-front : goal.returns-clause-front
returns-clause-front c = cut DATAGRAM_MAX c.min-len.result c.args.bytes.now c.copy_from_slice.new.self _ c.min-len.ensures (grind (arith, common_steps))
