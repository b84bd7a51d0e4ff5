use Rattle.td_audit.proofs.Words.{Datagram, Option, ap, is_same, licences_left, on_ok_weaker, one_if, sym, ◌+◌, ◌∙◌}
use Rattle.td_audit.proofs.judge.license_reply.Goals as goal

pub returns : goal.returns
returns c = on_ok_weaker c.grant.result (λ grants room e e_fits.
    let more = grants (room _ c.grant.ensures.fits c.in-Some.ensures.2) e e_fits in
    more ∙ ap (λ (x : Option Datagram). licences_left c.args.licences.now e + one_if (is_same e x)) (sym c.in-Some.ensures.0)) c.grant.ensures.more
