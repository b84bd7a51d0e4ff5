use Rattle.state_lines.proofs.Words.{before, codes}
use Rattle.state_lines.proofs.node_lines.put_client.Goals as goal

pub returns-clause-text : goal.returns-clause-text
returns-clause-text c =
    let joined =
    before c.args.out.now (codes " ") _ c.push_text.ensures
    (before c.push_text.new.self _ _ c.push_text-2.ensures
    (before c.push_text-2.new.self (codes " ") _ c.push_text-3.ensures
    (before c.push_text-3.new.self _ _ c.put_address.ensures.text
    (before c.put_address.new.out (codes " due ") _ c.push_text-4.ensures c.put_moment.ensures.text))))
    in
    rw (c.as_bytes.ensures.value, c.phase_name.ensures.word) at joined
