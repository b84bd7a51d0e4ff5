use Rattle.state_writer.proofs.Words.{err_from_is_err_and, forgotten_facts, is_restart, void_if}
use Rattle.state_writer.proofs.Sequence.{node_both, node_broken_off}
use Rattle.state_writer.proofs.at_node.write_of_nat.Goals as goal

pub returns-in_err-write_void : goal.returns-in_err-write_void
returns-in_err-write_void g c =
    let p = err_from_is_err_and c.from_residual.result c.from_residual.ensures.1 in
    let w = rw c.is_restart.ensures at c.in_err-write_void.ensures in
    rw p.1 (node_broken_off _ _ _ _ _ (g.K.Sink.state c.write_void.new.out) _ (void_if (is_restart c.args.act)) (forgotten_facts c.args.topology.now c.args.event.now) _ p.0 w)

pub returns : goal.returns
returns g c =
    let w = rw c.is_restart.ensures at c.in_ok-write_void.ensures in
    node_both _ _ _ _ _ _ _ (void_if (is_restart c.args.act)) (forgotten_facts c.args.topology.now c.args.event.now) _ w c.write_forgotten.ensures
