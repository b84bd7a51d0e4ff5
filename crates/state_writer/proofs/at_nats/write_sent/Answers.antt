use Rattle.state_writer.proofs.Words.{Some, [], err_from_is_err_and, lets_fact, nat_set_up, option_to_list, port_fact, ◌∷◌}
use Rattle.state_writer.proofs.Sequence.{node_both, node_broken_off}
use Rattle.state_writer.proofs.at_nats.write_sent.Goals as goal

pub returns-in_err-write_port : goal.returns-in_err-write_port
returns-in_err-write_port g c =
    let p = err_from_is_err_and c.from_residual.result c.from_residual.ensures.1 in
    let e = c.args.sent in
    let t = c.args.topology.now in
    let s = nat_set_up c.args.topology.now c.args.nat in
    rw p.1 (node_broken_off t (Some c.args.index) e.moment.0 (g.K.Sink.state c.args.out.now) (g.K.Sink.state c.write_port.new.out) (g.K.Sink.state c.write_port.new.out) c.args.nat (port_fact s e ∷ [])
    (option_to_list (lets_fact s e.port e)) _ p.0 c.in_err-write_port.ensures)

pub returns : goal.returns
returns g c =
    let e = c.args.sent in
    let t = c.args.topology.now in
    let s = nat_set_up c.args.topology.now c.args.nat in
    node_both t (Some c.args.index) e.moment.0 (g.K.Sink.state c.args.out.now) (g.K.Sink.state c.write_port.new.out) (g.K.Sink.state c.write_lets.new.out) c.args.nat (port_fact s e ∷ [])
    (option_to_list (lets_fact s e.port e)) _ c.in_ok-write_port.ensures c.write_lets.ensures
