use Rattle.state_writer.proofs.Words.{Failed, List, Node, NodeFact, None, Ok, Some, WritesFacts, [], ap, at_node, err_from_is_err_and, facts_of, first_facts, map, new_journal, nothing_wrote, subst, sym, ◌+◌, ◌∙◌}
use Rattle.state_writer.proofs.Sequence.{facts_both, facts_broken_off}
use Rattle.state_writer.proofs.FirstFacts.{one_first, no_first}
use Rattle.state_writer.proofs.at_first.+write_first_from.Goals as goal

pub returns-in_default : goal.returns-in_default
returns-in_default g n c =
    let t = c.args.topology.now in
    subst (λ (fs : List NodeFact). WritesFacts {E = Failed} t None 0 (g.K.Sink.state c.args.out.now) (g.K.Sink.state c.args.out.now) fs (Ok tt))
    (sym (no_first t c.args.number (rw c.from.ensures at (sym c.node.ensures.found ∙ c.in_default.is)))) (nothing_wrote _)

pub returns-in_err-write_first_of : goal.returns-in_err-write_first_of
returns-in_err-write_first_of g n c =
    let t = c.args.topology.now in
    let k = c.args.number in
    let p = err_from_is_err_and c.from_residual.result c.from_residual.ensures.1 in
    let one = one_first t k c.in-Some.node (rw c.from.ensures at (sym c.node.ensures.found ∙ c.in-Some.is)) in
    rw (p.1, one) (facts_broken_off t None 0 _ _ (g.K.Sink.state c.write_first_of.new.out) (map (at_node k) (facts_of t [] (new_journal 0) 0 c.in-Some.node)) (first_facts t (k + 1)) _ p.0 c.in_err-write_first_of.ensures)

pub returns : goal.returns
returns g n c =
    let t = c.args.topology.now in
    let k = c.args.number in
    let one = one_first t k c.in-Some.node (rw c.from.ensures at (sym c.node.ensures.found ∙ c.in-Some.is)) in
    rw one (facts_both t None 0 _ _ _ (map (at_node k) (facts_of t [] (new_journal 0) 0 c.in-Some.node)) (first_facts t (k + 1)) _ c.in_ok-write_first_of.ensures c.write_first_from.ensures)
