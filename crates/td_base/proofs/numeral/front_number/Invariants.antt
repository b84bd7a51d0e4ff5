use Rattle.td_base.proofs.Words.{IfSome, length, so_far, ◌++◌, ◌≡◌, ◌≤◌}
use Rattle.td_base.proofs.numeral.front_number.Given as goal

abbrev pub invariant-loop-rest : goal.invariant-loop-rest
invariant-loop-rest l = IfSome l.number (λ n. n ≤ l.most) × (l.text ≡ so_far l.number ++ l.rest)

abbrev pub decreases-loop-rest : goal.decreases-loop-rest
decreases-loop-rest l = length l.rest
