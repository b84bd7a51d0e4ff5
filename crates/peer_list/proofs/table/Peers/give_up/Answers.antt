use Rattle.peer_list.proofs.DueNowLemmas.{less_given_up}
use Rattle.peer_list.proofs.table.Peers.give_up.Goals as goal

pub returns-clause-less : goal.returns-clause-less
returns-clause-less c = less_given_up _ _ _ _ c.change.ensures
