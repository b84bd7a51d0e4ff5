use Rattle.states.proofs.LawProofs.{nat_facts_last}
use Rattle.states.proofs.laws.nat_facts_last.Goals as goal

pub returns : goal.returns
returns c = nat_facts_last
