use Rattle.state_writer.proofs.Words.{Failed, List, Mark, Ok, Some, WritesFacts, err_from_is_err_and, flat_map, lab_in, nothing_wrote, passing_facts, subst, sym, walk_marked, walk_of}
use Rattle.state_writer.proofs.LetOut.{no_marks, marks_written, marks_unwritten}
use Rattle.state_writer.proofs.at_nats.+write_marks.Goals as goal

pub returns-in_default : goal.returns-in_default
returns-in_default g n c = λ d H stands.
    let w = c.args.world.now in
    subst (λ (ms : List Mark). WritesFacts {E = Failed} w.topology (Some c.args.index) w.moment (g.K.Sink.state c.args.out.now) (g.K.Sink.state c.args.out.now)
    (flat_map (passing_facts w.topology) (flat_map (walk_marked (walk_of (lab_in d w) H w.moment c.args.client.now)) ms)) (Ok tt))
    (sym (no_marks c.args.marks.now c.in_default.len_below)) (nothing_wrote _)

pub returns-in_err-write_marked : goal.returns-in_err-write_marked
returns-in_err-write_marked g n c = λ d H stands.
    let p = err_from_is_err_and c.from_residual.result c.from_residual.ensures.1 in
    let w = c.args.world.now in
    rw p.1 (marks_unwritten w.topology (Some c.args.index) w.moment (walk_marked (walk_of (lab_in d w) H w.moment c.args.client.now)) c.args.marks.now _ _ _ _ p.0 c.in-len1-up.len_at_least
    (c.in_err-write_marked.ensures d H stands))

pub returns : goal.returns
returns g n c = λ d H stands.
    let w = c.args.world.now in
    marks_written w.topology (Some c.args.index) w.moment (walk_marked (walk_of (lab_in d w) H w.moment c.args.client.now)) c.args.marks.now _ _ _ _ _ c.in-len1-up.len_at_least
    (c.in_ok-write_marked.ensures d H stands) (c.write_marks.ensures d H stands)
