use Rattle.peer_list.proofs.LawProofs.{table_is_read}
use Rattle.peer_list.proofs.laws.table_is_read.Goals as goal

pub returns : goal.returns
returns c = table_is_read
