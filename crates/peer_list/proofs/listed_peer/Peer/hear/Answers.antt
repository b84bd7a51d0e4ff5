use Rattle.peer_list.proofs.Words.{rules}
use Rattle.peer_list.proofs.listed_peer.Peer.hear.Goals as goal

pub returns : goal.returns
returns c = search rules
