use Rattle.follow_writer.proofs.Words.{List, Ok, Saying, Writing, err_from_is_err_and, map, nothing_wrote, saying_by, subst, sym, told_line}
use Rattle.td_outside.specs.declared.fails.Failed.{Failed}
use Rattle.follow_writer.proofs.SaidLines.{no_sayings, sayings_written, sayings_unwritten}
use Rattle.follow_writer.proofs.follow_writer.+write_said.Goals as goal

pub returns-in_default : goal.returns-in_default
returns-in_default g n c = λ r is.
    subst (λ (ss : List Saying). Writing {E = Failed} (g.K.Sink.state c.args.out.now) (g.K.Sink.state c.args.out.now) (map (told_line c.args.topology.now) (map (saying_by c.args.index r) ss)) (Ok tt))
    (sym (no_sayings c.args.sayings.now c.in_default.len_below)) (nothing_wrote _)

pub returns-in_err-write_saying : goal.returns-in_err-write_saying
returns-in_err-write_saying g n c = λ r is.
    let p = err_from_is_err_and c.from_residual.result c.from_residual.ensures.1 in
    rw p.1 (sayings_unwritten (told_line c.args.topology.now) (saying_by c.args.index r) c.args.sayings.now _ c.in-len1-up.len_at_least _ _ p.0 _
    (c.in_err-write_saying.ensures r is))

pub returns : goal.returns
returns g n c = λ r is.
    sayings_written (told_line c.args.topology.now) (saying_by c.args.index r) c.args.sayings.now _ c.in-len1-up.len_at_least _ _ _ _
    (c.in_ok-write_saying.ensures r is) (c.write_said.ensures r is)
