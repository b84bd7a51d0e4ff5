use Rattle.std.proofs.Common.{sym, ◌∙◌, ap}
use Rattle.std.specs.Prelude.{is_ok}
use Rattle.show.specs.Explained.{text_of}
use Rattle.show.proofs.Told.{fault_told, bad_text, good_text}
use Rattle.show.proofs.explainer.explain_word.Goals as goal

pub returns-in-Some-clause-text : goal.returns-in-Some-clause-text
returns-in-Some-clause-text c = (fault_told _ _ _ _ c.clear.ensures c.put_hex_fault.ensures (bad_text _ _ (sym c.in-Some.ensures))).0

pub returns-in-Some-clause-found : goal.returns-in-Some-clause-found
returns-in-Some-clause-found c = (fault_told _ _ _ _ c.clear.ensures c.put_hex_fault.ensures (bad_text _ _ (sym c.in-Some.ensures))).1

pub returns-clause-text : goal.returns-clause-text
returns-clause-text c = c.explain_digits.ensures.text ∙ ap text_of (sym (good_text _ (sym c.in_default.ensures)))

pub returns-clause-found : goal.returns-clause-found
returns-clause-found c = c.explain_digits.ensures.found ∙ ap is_ok (sym (good_text _ (sym c.in_default.ensures)))
