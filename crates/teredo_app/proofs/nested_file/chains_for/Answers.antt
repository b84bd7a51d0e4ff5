use Rattle.teredo_app.proofs.Words.{err_from_is_err_and, told}
use Rattle.teredo_app.proofs.Nested.{none_for}
use Rattle.teredo_app.proofs.nested_file.chains_for.Goals as goal

pub returns-in_err-chains-clause-none : goal.returns-in_err-chains-clause-none
returns-in_err-chains-clause-none c =
    let why = err_from_is_err_and c.from_residual.result c.from_residual.ensures.1 in
    let due = rw c.as_bytes.ensures.value at c.in_err-chains.ensures.due in
    rw (why.1, why.2) (none_for (told c.args.s.now) c.args.chain.now c.in_err-chains.field-0.0 due)
