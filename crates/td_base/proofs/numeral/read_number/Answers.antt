use Rattle.td_base.proofs.Words.{Err, Ok, arith, decimal_injective, refl, rules, sym, ◌∙◌, ◌≡◌}
use Rattle.td_base.proofs.Halting.{longest_begin}
use Rattle.td_base.proofs.NumberValues.{number_read}
use Rattle.td_base.proofs.numeral.read_number.Goals as goal

pub returns-in-Ok-clause-only : goal.returns-in-Ok-clause-only
returns-in-Ok-clause-only c number le e =
    let found = c.in-Ok.ensures.found in
    let same : c.in-Ok.number ≡ number = decimal_injective _ _ (omega (arith, found.0)) (omega arith) (sym found.1 ∙ e) in
    rw same refl

pub returns-in-Err-clause-place : goal.returns-in-Err-clause-place
returns-in-Err-clause-place c = longest_begin _ _ _ _ c.in-Err.ensures.halts c.before-in-Err.ensures

pub returns-in-Err-clause-only : goal.returns-in-Err-clause-only
returns-in-Err-clause-only c = search rules

pub returns-in-Ok-clause-exact : goal.returns-in-Ok-clause-exact
returns-in-Ok-clause-exact c = number_read c.args.most c.args.text.now (Ok c.in-Ok.number) (omega (arith, c.ranges.most.fits)) c.in-Ok.ensures.found (returns-in-Ok-clause-only c)

pub returns-in-Err-clause-exact : goal.returns-in-Err-clause-exact
returns-in-Err-clause-exact c = number_read c.args.most c.args.text.now (Err _) (omega (arith, c.ranges.most.fits)) tt (returns-in-Err-clause-only c)
