use Rattle.report.proofs.Words.{act_text, codes, decimal, node_text}
use Rattle.report.proofs.Joined.{before}
use Rattle.report.proofs.lines.put_head.Goals as goal

pub returns-clause-text : goal.returns-clause-text
returns-clause-text c =
    let joined =
    before c.args.out.now (decimal c.args.index) _ c.put_number.ensures.text
    (before c.put_number.new.out (codes " ") _ c.push_text.ensures
    (before c.push_text.new.self (decimal c.args.r.now.moment.0) _ c.put_number-2.ensures.text
    (before c.put_number-2.new.out (codes " ") _ c.push_text-2.ensures
    (before c.push_text-2.new.self (decimal c.args.r.now.event) _ c.put_short.ensures.text
    (before c.put_short.new.out (codes " ") _ c.push_text-3.ensures
    (before c.push_text-3.new.self (act_text c.args.r.now.act) _ c.put_act.ensures.text
    (before c.put_act.new.out (codes " ") _ c.push_text-4.ensures
    (before c.push_text-4.new.self (node_text c.args.t.now c.args.r.now.node) _ c.put_node.ensures.text
    (before c.put_node.new.out (codes " ") _ c.push_text-5.ensures c.push_text-6.ensures)))))))))
    in
    rw (c.as_bytes.ensures.value, c.name.ensures.word) at joined
