use Rattle.scenario.proofs.Words.{refl, sym, ◌∙◌}
use Rattle.scenario.proofs.TableLemmas.{all_texts_are, none_of}
use Rattle.scenario.proofs.event_lists.all_texts.Goals as goal

pub returns-then-not-are_texts-clause-none : goal.returns-then-not-are_texts-clause-none
returns-then-not-are_texts-clause-none c = none_of _ (sym (c.are_texts.ensures ∙ all_texts_are c.args.values.now) ∙ c.if-not-are_texts.true)

pub returns-clause-some : goal.returns-clause-some
returns-clause-some c = (refl, sym (c.are_texts.ensures ∙ all_texts_are c.args.values.now) ∙ c.if-not-are_texts.false)
