use Rattle.td_base.proofs.Words.{arith, ◌-◌, ◌≡◌, ◌≤◌}
use Rattle.td_base.proofs.Decimals.{none_without_digit, none_above_first, none_after_0, none_above_number, first_digit, next_digit}
use Rattle.td_base.proofs.numeral.with_digit.Goals as goal

pub returns-in_err-digit-clause-none : goal.returns-in_err-digit-clause-none
returns-in_err-digit-clause-none c =
    rw c.from_residual.ensures (none_without_digit _ _ _ (omega arith) c.in_err-digit.ensures)

pub returns-then-digit-most-clause-some : goal.returns-then-digit-most-clause-some
returns-then-digit-most-clause-some c =
    let d = c.in_ok-digit.ensures in
    (omega arith, rw c.in_default.is (first_digit _ _ d.0.0 d.0.1 d.1))

pub returns-else-digit-most-clause-none : goal.returns-else-digit-most-clause-none
returns-else-digit-most-clause-none c =
    let d = c.in_ok-digit.ensures in
    rw c.in_default.is (none_above_first c.args.most c.args.byte (omega arith) d.0.0 d.0.1 (omega (arith, d)))

pub returns-then-number-eq0-clause-none : goal.returns-then-number-eq0-clause-none
returns-then-number-eq0-clause-none c =
    rw (c.in-Some.is, c.if-number-eq0.true) (none_after_0 c.args.most c.args.byte (omega arith))

pub returns-then-grown-from-clause-some : goal.returns-then-grown-from-clause-some
returns-then-grown-from-clause-some c =
    let d = c.in_ok-digit.ensures in
    let value : c.from-2.result ≡ c.args.byte - 48 = omega (arith, d) in
    (omega arith, rw (c.in-Some.is, value, c.from.ensures) (next_digit c.in-Some.number c.args.byte c.if-number-eq0.false d.0.0 d.0.1 (omega (arith, d))))

pub returns-else-grown-from-clause-none : goal.returns-else-grown-from-clause-none
returns-else-grown-from-clause-none c =
    let d = c.in_ok-digit.ensures in
    let small : c.in-Some.number ≤ c.args.most = rw c.in-Some.is at c.requires in
    rw c.in-Some.is (none_above_number c.args.most c.in-Some.number c.args.byte (omega arith) small d.0.0 d.0.1 (omega (arith, d)))
