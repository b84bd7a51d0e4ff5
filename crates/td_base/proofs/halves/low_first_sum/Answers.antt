use Rattle.td_base.proofs.Words.{take_rest, ◌∙◌}
use Rattle.td_base.proofs.halves.low_first_sum.Goals as goal

pub loop-rest-preserved : goal.loop-rest-preserved
loop-rest-preserved c = rw (take_rest c.loop-rest.rest.now 32) (c.four_words-sum.ensures ∙ c.loop-rest.invariant)
