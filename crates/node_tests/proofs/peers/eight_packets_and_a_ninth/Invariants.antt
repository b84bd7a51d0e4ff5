use Rattle.std.proofs.Common.{◌≤◌}
use Rattle.node_tests.proofs.peers.eight_packets_and_a_ninth.Given as goal

abbrev pub invariant-loop-byte : goal.invariant-loop-byte
invariant-loop-byte g l = l.peers.moment ≤ 0
