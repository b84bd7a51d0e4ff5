use Rattle.td_explain.proofs.Words.{before, codes, field}
use Rattle.td_explain.proofs.lines.put_licensing.Goals as goal

pub returns-in-Near-clause-text : goal.returns-in-Near-clause-text
returns-in-Near-clause-text c =
    rw c.in-Near.is
    (before c.args.page.now (field (codes " unlicensed near ") c.in-Near.place) _ c.put_field-in-Near.ensures.text c.put_field-in-Near-2.ensures.text)

pub returns-in-Unasked-clause-text : goal.returns-in-Unasked-clause-text
returns-in-Unasked-clause-text c = rw c.in-Unasked.is c.push_text.ensures.text
