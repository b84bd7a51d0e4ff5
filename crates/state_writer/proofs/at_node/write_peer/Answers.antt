use Rattle.state_writer.proofs.Words.{Some, Writing-line, changed_facts, journal, node_at, ◌∷◌}
use Rattle.state_writer.proofs.TellsOne.{none_of_facts, one_of_facts}
use Rattle.state_writer.proofs.at_node.write_peer.Goals as goal

pub returns-then-not-changed_peer_line : goal.returns-then-not-changed_peer_line
returns-then-not-changed_peer_line g c = λ d r H stands node fate.
    let w = c.args.world.now in
    let n = c.args.number in
    none_of_facts w.topology (Some c.args.index) w.moment n (changed_facts r (journal n (r ∷ H)) (node_at w.topology n)) _ c.changed_peer_line.new.out (g.K.Sink.state c.args.out.now)
    (c.changed_peer_line.ensures.line d r H stands node fate) c.if-not-changed_peer_line.true

pub returns : goal.returns
returns g c = λ d r H stands node fate.
    let w = c.args.world.now in
    let n = c.args.number in
    one_of_facts w.topology (Some c.args.index) w.moment n (changed_facts r (journal n (r ∷ H)) (node_at w.topology n)) _ c.changed_peer_line.new.out (g.K.Sink.state c.args.out.now) (g.K.Sink.state c.write_line.new.out) _
    (c.changed_peer_line.ensures.line d r H stands node fate) c.if-not-changed_peer_line.false
    (Writing-line _ _ _ _ _ c.as_slice.ensures.value c.write_line.ensures)
