use Rattle.std.proofs.Common.{◌≡◌}
use Rattle.generator.proofs.Fitting.{some_servers, some_nats, some_clients, some_natives}
use Rattle.generator.proofs.nodes.generated_nodes.Given as goal

abbrev pub invariant-loop-k : goal.invariant-loop-k
invariant-loop-k l = l.topology ≡ some_servers l.k

abbrev pub invariant-loop-k-2 : goal.invariant-loop-k-2
invariant-loop-k-2 l = l.topology ≡ some_nats l.k

abbrev pub invariant-loop-k-3 : goal.invariant-loop-k-3
invariant-loop-k-3 l = l.topology ≡ some_clients l.k

abbrev pub invariant-loop-k-4 : goal.invariant-loop-k-4
invariant-loop-k-4 l = l.topology ≡ some_natives l.k
