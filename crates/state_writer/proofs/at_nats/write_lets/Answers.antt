use Rattle.state_writer.proofs.Words.{Some, Writing-line, lets_fact, nat_set_up}
use Rattle.state_writer.proofs.TellsOne.{no_let, one_let}
use Rattle.state_writer.proofs.at_nats.write_lets.Goals as goal

pub returns-then-not-passed_lets_line : goal.returns-then-not-passed_lets_line
returns-then-not-passed_lets_line g c =
    let t = c.args.topology.now in
    let e = c.args.sent in
    no_let t (Some c.args.index) e.moment.0 c.args.nat (lets_fact (nat_set_up t c.args.nat) e.port e) _ (g.K.Sink.state c.args.out.now) c.passed_lets_line.ensures.told c.if-not-passed_lets_line.true

pub returns : goal.returns
returns g c =
    let t = c.args.topology.now in
    let e = c.args.sent in
    one_let t (Some c.args.index) e.moment.0 c.args.nat (lets_fact (nat_set_up t c.args.nat) e.port e) _ _ (g.K.Sink.state c.args.out.now)
    (g.K.Sink.state c.write_line.new.out) _ c.passed_lets_line.ensures.told c.if-not-passed_lets_line.false c.passed_lets_line.ensures.line
    (Writing-line _ _ _ _ _ c.as_slice.ensures.value c.write_line.ensures)
