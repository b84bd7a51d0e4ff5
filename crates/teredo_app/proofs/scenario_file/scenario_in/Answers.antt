use Rattle.teredo_app.proofs.Words.{WritesNothing-refl, err_from_is_err_and, kept_in_scenarios, not_kept, not_taken, refl, rules, told, ◌∙◌, ◌≡◌}
use Rattle.scenario.specs.declared.scenario_fault.ScenarioFault.TheVariants.{NoMemory}
use Rattle.teredo_app.proofs.Ended.{unread_plays}
use Rattle.teredo_app.proofs.WholeText.{whole_text}
use Rattle.teredo_app.proofs.scenario_file.scenario_in.Goals as goal

pub returns-in-Ok-clause-read : goal.returns-in-Ok-clause-read
returns-in-Ok-clause-read g c =
    let read = rw c.deref.ensures.value at c.in-Ok.ensures.read in
    let (whole, is_named, same) = whole_text _ c.in_ok-text.text.items c.in_ok-text.ensures.text in
    (whole, is_named, same ∙ read)

pub returns-clause-ends : goal.returns-clause-ends
returns-clause-ends g c =
    let other : c.in-Err.fault ≡ NoMemory → ⊥ = search rules in
    let refused = rw c.deref.ensures.value at c.in-Err.ensures.refused other in
    let (whole, is_named, same) = whole_text _ c.in_ok-text.text.items c.in_ok-text.ensures.text in
    let line = rw c.as_slice.ensures.value at c.end_with.ensures in
    not_taken c.in-Err.fault (whole, is_named, same ∙ refused) c.in_ok-text.ensures.quiet (rw c.put_refusal_line.ensures at line)

pub returns-in_err-text-clause-ends : goal.returns-in_err-text-clause-ends
returns-in_err-text-clause-ends g c =
    let read = c.read_named.ensures in
    let status = err_from_is_err_and c.from_residual.result c.from_residual.ensures.1 in
    rw (status.1, status.2) (unread_plays _ _ _ _ c.args.file.now c.read_named.result c.in_err-text.field-0.0 c.in_err-text.was read.starved read.failed refl
    (WritesNothing-refl _))

pub returns-in-Err-NoMemory-clause-ends : goal.returns-in-Err-NoMemory-clause-ends
returns-in-Err-NoMemory-clause-ends g c = not_kept refl (record { source = c.in_ok-text.ensures.quiet; sink = refl }) (WritesNothing-refl _)

pub returns-in-Ok-clause-promised : goal.returns-in-Ok-clause-promised
returns-in-Ok-clause-promised g c = λ chain. kept_in_scenarios (told c.in-Ok.s) chain c.servers-rules.ensures.rules c.in-Ok.ensures.legal
