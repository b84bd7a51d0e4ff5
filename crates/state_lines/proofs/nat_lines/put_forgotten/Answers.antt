use Rattle.state_lines.proofs.Words.{before, codes}
use Rattle.state_lines.proofs.nat_lines.put_forgotten.Goals as goal

pub returns-clause-text : goal.returns-clause-text
returns-clause-text c =
    before c.args.out.now (codes " inside ") _ c.push_text.ensures
    (before c.push_text.new.self _ _ c.put_ep.ensures.text c.push_text-2.ensures)
