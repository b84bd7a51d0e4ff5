use Rattle.td_base.proofs.Words.{Err, Ok, refl, rules, sym, ◌∙◌, ◌≡◌}
use Rattle.td_base.proofs.Halting.{longest_begin}
use Rattle.td_base.proofs.Ip4Lemmas.{one_ep}
use Rattle.td_base.proofs.AddressValues.{ep_read}
use Rattle.td_base.proofs.endpoint_text.read_ep.Goals as goal

pub returns-in-Ok-clause-only : goal.returns-in-Ok-clause-only
returns-in-Ok-clause-only c value is e =
    let found = c.in-Ok.ensures.found in
    let same : c.in-Ok.ep ≡ value = one_ep _ _ found.0 is (sym found.1 ∙ e) in
    rw same refl

pub returns-in-Err-clause-place : goal.returns-in-Err-clause-place
returns-in-Err-clause-place c = longest_begin _ _ _ _ c.in-Err.ensures.halts c.before-in-Err.ensures

pub returns-in-Err-clause-only : goal.returns-in-Err-clause-only
returns-in-Err-clause-only c = search rules

pub returns-in-Ok-clause-exact : goal.returns-in-Ok-clause-exact
returns-in-Ok-clause-exact c = ep_read c.args.text.now (Ok c.in-Ok.ep) c.in-Ok.ensures.found (returns-in-Ok-clause-only c)

pub returns-in-Err-clause-exact : goal.returns-in-Err-clause-exact
returns-in-Err-clause-exact c = ep_read c.args.text.now (Err _) tt (returns-in-Err-clause-only c)
