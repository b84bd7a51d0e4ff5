use Rattle.state_writer.proofs.Words.{Some, Writing-line, journal, node_at, own_fact}
use Rattle.state_writer.proofs.TellsOne.{none_told, one_told}
use Rattle.state_writer.proofs.at_node.write_own.Goals as goal

pub returns-then-not-own_line : goal.returns-then-not-own_line
returns-then-not-own_line g c = λ d H stands.
    let w = c.args.world.now in
    let n = c.args.number in
    none_told w.topology (Some c.args.index) w.moment n (own_fact w.topology (journal n H) w.moment (node_at w.topology n)) _ c.own_line.new.out (g.K.Sink.state c.args.out.now) (c.own_line.ensures.line d H stands) c.if-not-own_line.true

pub returns : goal.returns
returns g c = λ d H stands.
    let w = c.args.world.now in
    let n = c.args.number in
    one_told w.topology (Some c.args.index) w.moment n (own_fact w.topology (journal n H) w.moment (node_at w.topology n)) _ c.own_line.new.out (g.K.Sink.state c.args.out.now) (g.K.Sink.state c.write_line.new.out) _
    (c.own_line.ensures.line d H stands) c.if-not-own_line.false
    (Writing-line _ _ _ _ _ c.as_slice.ensures.value c.write_line.ensures)
