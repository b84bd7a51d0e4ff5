use Rattle.std.proofs.Common.{◌≤◌}
use Rattle.node_tests.proofs.peers.a_256th_peer_and_a_257th.Given as goal

abbrev pub invariant-loop-number : goal.invariant-loop-number
invariant-loop-number g l = l.peers.moment ≤ 7
