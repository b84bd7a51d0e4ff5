use Rattle.show.proofs.ShownLaws.{shown, only_shown, told}
use Rattle.show.proofs.explainer.explain.Goals as goal

pub returns-clause-shown : goal.returns-clause-shown
returns-clause-shown c = shown _ _ _ c.explain_word.ensures.text c.explain_word.ensures.found

pub returns-clause-only : goal.returns-clause-only
returns-clause-only c = λ x v said spelled. only_shown _ _ x _ v c.explain_word.ensures.text c.explain_word.ensures.found said spelled

pub returns-clause-fault : goal.returns-clause-fault
returns-clause-fault c = told _ _ _ c.explain_word.ensures.text c.explain_word.ensures.found
