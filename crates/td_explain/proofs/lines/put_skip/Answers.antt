use Rattle.td_explain.proofs.Words.{before, codes, field}
use Rattle.td_explain.proofs.lines.put_skip.Goals as goal

pub returns-in-Length-clause-text : goal.returns-in-Length-clause-text
returns-in-Length-clause-text c =
    rw c.in-Length.is
    (before c.args.page.now (field (codes "length said ") c.in-Length.said) _ c.put_field-in-Length.ensures.text c.put_field-in-Length-2.ensures.text)
