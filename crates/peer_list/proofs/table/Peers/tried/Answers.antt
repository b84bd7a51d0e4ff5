use Rattle.peer_list.proofs.DueNowLemmas.{less_tried}
use Rattle.peer_list.proofs.table.Peers.tried.Goals as goal

pub returns-clause-less : goal.returns-clause-less
returns-clause-less c = less_tried _ _ _ _ c.args.nonce c.change.ensures
