use Rattle.peer_list.proofs.Words.{rules}
use Rattle.peer_list.proofs.listed_peer.Peer.hold.Goals as goal

pub returns-clause-held : goal.returns-clause-held
returns-clause-held c = search rules
