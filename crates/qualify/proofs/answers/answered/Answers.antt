use Rattle.qualify.proofs.Words.{AnswersBy, State, after_words, qualification_of, refl, subst, sym, words_of}
use Rattle.qualify.proofs.answers.answered.Goals as goal

pub returns-in-Restricted-clause-place : goal.returns-in-Restricted-clause-place
unfolding after_words
returns-in-Restricted-clause-place c = refl

pub returns-in-Qualified-clause-answer : goal.returns-in-Qualified-clause-answer
returns-in-Qualified-clause-answer c =
    subst (λ (x : State). AnswersBy c.args.settings.now c.args.now.0 c.args.origin (words_of c.args.rng.now) (qualification_of x) c.refreshed.result.1 (qualification_of c.refreshed.result.0))
    (sym c.in-Qualified.is) c.refreshed.ensures.answer

pub returns-in-Symmetric-clause-place : goal.returns-in-Symmetric-clause-place
unfolding after_words
returns-in-Symmetric-clause-place c = refl
