use Rattle.states.proofs.LawProofs.{peer_facts_last}
use Rattle.states.proofs.laws.peer_facts_last.Goals as goal

pub returns : goal.returns
returns c = peer_facts_last
