use Rattle.lab_nodes.proofs.Arrivals.{copied_front, received}
use Rattle.lab_nodes.proofs.one_arrival.OneArrivalLink.recv.Goals as goal

pub returns-clause-lists : goal.returns-clause-lists
returns-clause-lists c =
    rw (c.side_now.ensures) (received c.args.self.now _ c.if-self.false (copied_front c.args.self.now.bytes.now c.copy_from_slice.new.self _ c.min-len.result _ c.min-len.ensures c.copy_from_slice.ensures.after))
