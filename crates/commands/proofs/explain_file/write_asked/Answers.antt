use Rattle.commands.proofs.Words.{[], answered_line, asked_line, err_from_is_err_and, ◌∷◌}
use Rattle.commands.proofs.Telling.{writing_then, writing_failed, more_lines, asked_lines}
use Rattle.commands.proofs.explain_file.write_asked.Goals as goal

pub returns-in_err-write_line : goal.returns-in_err-write_line
returns-in_err-write_line g c =
    let place = c.args.place in
    let q = c.args.question in
    let p = err_from_is_err_and c.from_residual.result c.from_residual.ensures.1 in
    let line = rw c.put_asked_line.ensures at (rw c.as_slice.ensures.value at c.in_err-write_line.ensures) in
    rw (p.1, asked_lines place q c.args.answered) (writing_failed _ _ (asked_line place q ∷ []) (more_lines place c.args.answered) _ p.0 line)

pub returns-in-Some : goal.returns-in-Some
returns-in-Some g c =
    let place = c.args.place in
    let first = rw c.put_asked_line.ensures at (rw c.as_slice.ensures.value at c.in_ok-write_line.ensures) in
    let second = rw c.put_answered_line.ensures at (rw c.as_slice-in-Some.ensures.value at c.write_line-in-Some.ensures) in
    rw c.in-Some.is (writing_then _ _ _ (asked_line place c.args.question ∷ []) (answered_line place c.in-Some.answer ∷ []) _ _ first second)
