use Rattle.events.proofs.Words.{event_text, rules, ◌≡◌}
use Rattle.events.specs.declared.event.Event.TheVariants as event
use Rattle.events.proofs.SpellingLaws.{again_fault}
use Rattle.events.proofs.event_printer.fault_text.Goals as goal

pub returns-clause-again : goal.returns-clause-again
unfolding event_text
returns-clause-again c = λ t.
    let same : c.push_number.new.text.items ≡ event_text t (event.Fault c.args.send) = search rules in
    rw same (again_fault t c.args.send c.requires)
