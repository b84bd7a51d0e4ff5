use Rattle.peer_list.proofs.Words.{refl}
use Rattle.peer_list.proofs.StandsLemmas.{empty_stands}
use Rattle.peer_list.proofs.TimelyLemmas.{timely_empty}
use Rattle.peer_list.proofs.table.Peers.new.Goals as goal

pub invariant_of-result : goal.invariant_of-result
invariant_of-result c = record { kept = c.new.ensures.kept; timely = timely_empty _ c.new.ensures.empty }

pub returns-clause-stands : goal.returns-clause-stands
returns-clause-stands c = empty_stands _ c.new.ensures.empty refl
