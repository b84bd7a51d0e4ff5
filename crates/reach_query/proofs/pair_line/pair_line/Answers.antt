use Rattle.reach_query.proofs.Words.{Some, alone, before, codes, node_text}
use Rattle.reach_query.proofs.pair_line.pair_line.Goals as goal

pub returns : goal.returns
returns c =
    let joined =
    alone _ c.clear.ensures
    (before c.clear.new.self (node_text c.args.topology.now (Some c.args.from)) _ c.put_name.ensures.text
    (before c.put_name.new.line (codes " ") _ c.push_text.ensures
    (before c.push_text.new.self (node_text c.args.topology.now (Some c.args.to)) _ c.put_name-2.ensures.text
    (before c.put_name-2.new.line (codes " ") _ c.push_text-2.ensures
    (before c.push_text-2.new.self _ _ c.push_text-3.ensures c.push_text-4.ensures)))))
    in
    rw (c.as_bytes.ensures.value, c.word_of.ensures.word) at joined
