use Rattle.std.proofs.Common.{◌≡◌}
use Rattle.node_tests.proofs.nats.ports_run_out.Given as goal

-- no time passes
abbrev pub invariant-loop-i : goal.invariant-loop-i
invariant-loop-i g l = l.nat.moment ≡ 0
