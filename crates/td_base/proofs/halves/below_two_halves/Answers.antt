use Rattle.td_base.proofs.Words.{arith, take_rest, ◌∙◌}
use Rattle.td_base.proofs.Folding.{around_again, next_four}
use Rattle.td_base.proofs.halves.below_two_halves.Goals as goal

pub returns-clause-sum : goal.returns-clause-sum
returns-clause-sum c =
    rw (take_rest c.args.bytes.now 4, c.end_around.ensures, c.from-halves.ensures, c.read_u32.ensures) (around_again _ _ ∙ next_four c.args.sum c.args.bytes.now (omega (arith, c.if-bytes-lt-TWO_HALVES.false)))
