use Rattle.qualify.proofs.Words.{Step, after_words, ap, sym}
use Rattle.qualify.proofs.ticks.ticked.Goals as goal

pub returns-then-not-is_due-clause-place : goal.returns-then-not-is_due-clause-place
unfolding after_words
returns-then-not-is_due-clause-place c = ap (λ (x : Step). after_words x.drawn c.args.rng.now) (sym c.reset.ensures)
