use Rattle.td_outside.proofs.Words.{at_primary, came_from, drop, map, take, ◌++◌, ◌≡◌}
use Rattle.td_outside.proofs.mem_arrival.all_to_primary.Given as goal

abbrev pub invariant-loop-arrival : goal.invariant-loop-arrival
invariant-loop-arrival l = map came_from l.arrivals ≡ map at_primary (take l.arrival-index (map came_from l.fn.arrivals)) ++ drop l.arrival-index (map came_from l.fn.arrivals)
