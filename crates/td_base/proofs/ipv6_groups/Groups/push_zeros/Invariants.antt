use Rattle.td_base.proofs.Words.{replicate, ◌++◌, ◌≡◌}
use Rattle.td_base.proofs.ipv6_groups.Groups.push_zeros.Given as goal

abbrev pub invariant-loop : goal.invariant-loop
invariant-loop l = l.self ≡ l.fn.self ++ replicate l.counter 0
