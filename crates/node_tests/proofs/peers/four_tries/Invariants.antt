use Rattle.std.proofs.Common.{◌≤◌, ◌*◌}
use Rattle.node_tests.proofs.peers.four_tries.Given as goal

abbrev pub invariant-loop-turn : goal.invariant-loop-turn
invariant-loop-turn g l = l.peers.moment ≤ 2000 * l.turn
