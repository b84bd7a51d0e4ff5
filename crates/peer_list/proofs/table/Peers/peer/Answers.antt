use Rattle.peer_list.proofs.Words.{sym}
use Rattle.peer_list.proofs.SettleLemmas.{there, known_found}
use Rattle.peer_list.proofs.table.Peers.peer.Goals as goal

pub peer-requires-clause-there : goal.peer-requires-clause-there
peer-requires-clause-there c = there c.self.inside.entries _ _ c.self.view_is c.requires.listed

pub returns : goal.returns
returns c = sym (known_found c.self.inside.entries _ _ c.self.view_is _ c.peer.ensures c.requires.listed)
