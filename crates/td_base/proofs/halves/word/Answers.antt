use Rattle.td_base.proofs.Words.{◌∙◌}
use Rattle.td_base.proofs.Folding.{around_again, next_word}
use Rattle.td_base.proofs.halves.word.Goals as goal

pub returns : goal.returns
returns c = rw (c.end_around.ensures, c.read_u64.ensures) (around_again _ _ ∙ next_word c.args.sum c.args.bytes.now c.requires)
