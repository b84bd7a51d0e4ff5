use Rattle.std.proofs.Common.{◌≤◌, ◌<◌}
use Rattle.node_tests.proofs.relays.plays.Given as goal

abbrev pub invariant-loop-row : goal.invariant-loop-row
invariant-loop-row l = record { clock : l.relay.peers.moment ≤ l.now; early : l.now < 4294967296 }
