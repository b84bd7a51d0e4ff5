use Rattle.peer_list.proofs.Words.{IsPartitionPoint-from_clause, rules}
use Rattle.peer_list.proofs.OrderLemmas.{stays, parted}
use Rattle.peer_list.proofs.order.place_behind.Goals as goal

pub returns-clause-place : goal.returns-clause-place
returns-clause-place c =
    IsPartitionPoint-from_clause (stays c.args.slab.now c.args.next) c.args.order.now c.partition_point.result c.partition_point.ensures.partitioned
    (parted c.args.slab.now c.args.order.now c.args.next c.requires.turn) (λ a r f' called. search rules)
