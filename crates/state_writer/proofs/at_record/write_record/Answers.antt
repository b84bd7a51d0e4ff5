use Rattle.state_writer.proofs.Words.{List, Result, Some, TopologyState, Writing, ap, concerned_at, err_from_is_err_and, fact_line, flat_map, map, passing_facts, reverse, subst, ℕ, ◌∙◌}
use Rattle.state_writer.proofs.Sequence.{facts_both, facts_broken_off}
use Rattle.state_writer.proofs.AtNode.{of_record}
use Rattle.state_writer.proofs.at_record.write_record.Goals as goal

pub returns-in_err-write_at_node : goal.returns-in_err-write_at_node
returns-in_err-write_at_node g c = λ t H r news index.
    let p = err_from_is_err_and c.from_residual.result c.from_residual.ensures.1 in
    let u = c.args.world.now.topology in
    rw p.1 (of_record t u c.args.index c.args.world.now.moment H r (g.K.Sink.state c.args.out.now) (g.K.Sink.state c.write_at_node.new.out) _ news.topology news.stands.moment index
    (facts_broken_off u (Some c.args.index) c.args.world.now.moment (g.K.Sink.state c.args.out.now) (g.K.Sink.state c.write_at_node.new.out) (g.K.Sink.state c.write_at_node.new.out) (concerned_at u H r r.node)
    (flat_map (passing_facts u) (reverse r.passed)) _ p.0
    (c.in_err-write_at_node.ensures news.draws r H news.stands news.is news.asked)))

pub returns : goal.returns
returns g c = λ t H r news index.
    let u = c.args.world.now.topology in
    of_record t u c.args.index c.args.world.now.moment H r (g.K.Sink.state c.args.out.now) (g.K.Sink.state c.write_let_out.new.out) _ news.topology news.stands.moment index
    (facts_both u (Some c.args.index) c.args.world.now.moment (g.K.Sink.state c.args.out.now) (g.K.Sink.state c.write_at_node.new.out) (g.K.Sink.state c.write_let_out.new.out) (concerned_at u H r r.node)
    (flat_map (passing_facts u) (reverse r.passed)) _
    (c.in_ok-write_at_node.ensures news.draws r H news.stands news.is news.asked) (c.write_let_out.ensures news.draws r H news.stands news.is))
