use Rattle.scenario.proofs.Words.{sym, ◌∙◌}
use Rattle.scenario.proofs.Names.{spelled_name-made, spelled_name-not}
use Rattle.scenario.proofs.fresh.spelled_name.Goals as goal

pub returns-then-not-is_name : goal.returns-then-not-is_name
returns-then-not-is_name c = sym (spelled_name-not _ (sym c.is_name.ensures ∙ c.if-not-is_name.true))

pub returns : goal.returns
returns c = spelled_name-made c.args.text.now c.new.result (sym c.is_name.ensures ∙ c.if-not-is_name.false) c.new.ensures.text c.new.ensures.none
