use Rattle.td_base.proofs.Words.{err_from_is_err_and}
use Rattle.td_base.proofs.Ip4Lemmas.{some_dot, dot_halts, dot_goes_on, some_last_of_ip4, ip4_halts}
use Rattle.td_base.proofs.ipv4_text.whole_ip4.Goals as goal

pub returns-in_err-a-clause-halts : goal.returns-in_err-a-clause-halts
returns-in_err-a-clause-halts c =
    let p = err_from_is_err_and c.from_residual.result c.from_residual.ensures.1 in
    rw (p.1, p.2) (ip4_halts _ _ (dot_halts (some_dot (some_dot some_last_of_ip4)) c.in_err-a.ensures.halts))

pub returns-in_err-b-clause-halts : goal.returns-in_err-b-clause-halts
returns-in_err-b-clause-halts c =
    let p = err_from_is_err_and c.from_residual-in_err-b.result c.from_residual-in_err-b.ensures.1 in
    let a = c.in_ok-a.ensures.found in
    rw (p.1, p.2) (ip4_halts _ _ (dot_goes_on _ a (dot_halts (some_dot some_last_of_ip4) c.in_err-b.ensures.halts)))

pub returns-in_err-c-clause-halts : goal.returns-in_err-c-clause-halts
returns-in_err-c-clause-halts c =
    let p = err_from_is_err_and c.from_residual-in_err-c.result c.from_residual-in_err-c.ensures.1 in
    let a = c.in_ok-a.ensures.found in
    let b = c.in_ok-b.ensures.found in
    rw (p.1, p.2) (ip4_halts _ _ (dot_goes_on _ a (dot_goes_on _ b (dot_halts some_last_of_ip4 c.in_err-c.ensures.halts))))

pub returns-in_err-d-clause-halts : goal.returns-in_err-d-clause-halts
returns-in_err-d-clause-halts c =
    let p = err_from_is_err_and c.from_residual-in_err-d.result c.from_residual-in_err-d.ensures.1 in
    let a = c.in_ok-a.ensures.found in
    let b = c.in_ok-b.ensures.found in
    let d = c.in_ok-c.ensures.found in
    rw (p.1, p.2) (ip4_halts _ _ (dot_goes_on _ a (dot_goes_on _ b (dot_goes_on _ d c.in_err-d.ensures.halts))))
