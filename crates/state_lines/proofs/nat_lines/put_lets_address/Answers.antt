use Rattle.state_lines.proofs.Words.{before, codes}
use Rattle.state_lines.proofs.nat_lines.put_lets_address.Goals as goal

pub returns-clause-text : goal.returns-clause-text
returns-clause-text c =
    let joined =
    before c.args.out.now (codes " port ") _ c.push_text.ensures
    (before c.push_text.new.self _ _ c.put_number.ensures.text
    (before c.put_number.new.out (codes " lets ") _ c.push_text-2.ensures
    (before c.push_text-2.new.self _ _ c.put_ip4.ensures.text c.put_until.ensures.text)))
    in
    rw (← c.from.ensures) joined
