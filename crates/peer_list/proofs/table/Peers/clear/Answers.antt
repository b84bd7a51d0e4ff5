use Rattle.peer_list.proofs.Words.{refl}
use Rattle.peer_list.proofs.StandsLemmas.{empty_stands}
use Rattle.peer_list.proofs.TimelyLemmas.{timely_empty}
use Rattle.peer_list.proofs.table.Peers.clear.Goals as goal

pub invariant_of-self : goal.invariant_of-self
invariant_of-self c = record { kept = c.clear.ensures.kept; timely = timely_empty _ c.clear.ensures.empty }

pub returns-clause-stands : goal.returns-clause-stands
returns-clause-stands c = empty_stands _ c.clear.ensures.empty refl
