use Rattle.events.proofs.Words.{event_text, rules, ◌≡◌}
use Rattle.events.specs.declared.event.Event.TheVariants as event
use Rattle.events.proofs.SpellingLaws.{again_deliver}
use Rattle.events.proofs.event_printer.deliver_text.Goals as goal

pub returns-clause-again : goal.returns-clause-again
unfolding event_text
returns-clause-again c = λ t.
    let same : c.push_number.new.text.items ≡ event_text t (event.Deliver c.args.number) = search rules in
    rw same (again_deliver t c.args.number c.requires)
