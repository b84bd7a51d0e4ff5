use Rattle.events.proofs.Words.{arith, event_text, ◌≡◌}
use Rattle.events.specs.declared.event.Event.TheVariants as event
use Rattle.events.proofs.SpellingLaws.{again_copy, joined_four}
use Rattle.events.proofs.event_printer.copy_text.Goals as goal

pub returns-clause-again : goal.returns-clause-again
unfolding event_text
returns-clause-again c = λ t.
    let same : c.push_ep-2.new.text.items ≡ event_text t (event.Copy c.args.number c.args.src c.args.dst) = grind (arith, joined_four) in
    rw same (again_copy t c.args.number c.args.src c.args.dst c.requires c.push_ep.ensures.is c.push_ep-2.ensures.is)
