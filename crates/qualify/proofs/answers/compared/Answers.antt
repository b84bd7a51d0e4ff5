use Rattle.qualify.proofs.Words.{after_words, refl}
use Rattle.qualify.proofs.answers.compared.Goals as goal

pub returns-else-eq-clause-place : goal.returns-else-eq-clause-place
unfolding after_words
returns-else-eq-clause-place c = refl
