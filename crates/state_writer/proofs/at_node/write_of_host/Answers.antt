use Rattle.state_writer.proofs.Words.{Record, Some, ap, err_from_is_err_and, known_facts, lab_in, sym, void_if, voids, ◌∙◌}
use Rattle.state_writer.proofs.Sequence.{node_both, node_broken_off}
use Rattle.state_writer.proofs.Voids.{void_said}
use Rattle.state_writer.proofs.at_node.write_of_host.Goals as goal

pub returns-in_err-write_void : goal.returns-in_err-write_void
returns-in_err-write_void g c = λ d r H stands said node.
    let p = err_from_is_err_and c.from_residual.result c.from_residual.ensures.1 in
    let is = c.is_void.ensures ∙ void_said (lab_in d c.args.world.now) H r c.args.said.now stands.grown.0 said in
    let w = rw (is, c.topology.ensures, c.moment.ensures.value) at c.in_err-write_void.ensures in
    rw p.1 (node_broken_off c.args.world.now.topology (Some c.args.index) c.args.world.now.moment (g.K.Sink.state c.args.out.now) (g.K.Sink.state c.write_void.new.out) (g.K.Sink.state c.write_void.new.out) c.args.number
    (void_if (voids r)) (known_facts c.args.world.now.topology r H c.args.number) _ p.0 w)

pub returns : goal.returns
returns g c = λ d r H stands said node.
    let is = c.is_void.ensures ∙ void_said (lab_in d c.args.world.now) H r c.args.said.now stands.grown.0 said in
    let w = rw (is, c.topology.ensures, c.moment.ensures.value) at c.in_ok-write_void.ensures in
    node_both c.args.world.now.topology (Some c.args.index) c.args.world.now.moment (g.K.Sink.state c.args.out.now) (g.K.Sink.state c.write_void.new.out) (g.K.Sink.state c.write_known.new.out) c.args.number (void_if (voids r))
    (known_facts c.args.world.now.topology r H c.args.number) _ w
    (c.write_known.ensures d r H stands node (sym (ap (λ (x : Record). x.fate) said)))
