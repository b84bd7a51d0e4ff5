use Rattle.qualify.proofs.Words.{after_words, refl}
use Rattle.qualify.proofs.answers.refreshed.Goals as goal

pub returns-then-eq-clause-place : goal.returns-then-eq-clause-place
unfolding after_words
returns-then-eq-clause-place c = refl
