use Rattle.td_base.proofs.Words.{take, ◌++◌, ◌≡◌}
use Rattle.td_base.proofs.ipv6_groups.Groups.push_all.Given as goal

abbrev pub invariant-loop-number : goal.invariant-loop-number
invariant-loop-number l = l.self ≡ l.fn.self ++ take l.number-index l.numbers
