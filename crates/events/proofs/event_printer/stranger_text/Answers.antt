use Rattle.events.proofs.Words.{arith, event_text, ◌≡◌}
use Rattle.events.specs.declared.event.Event.TheVariants as event
use Rattle.events.proofs.SpellingLaws.{again_stranger, joined_four}
use Rattle.events.proofs.event_printer.stranger_text.Goals as goal

pub returns-clause-again : goal.returns-clause-again
unfolding event_text
returns-clause-again c = λ t.
    let same : c.push_bytes.new.text.items ≡ event_text t (event.Stranger c.args.src c.args.dst c.args.bytes.now) = grind (arith, joined_four) in
    rw same (again_stranger t c.args.src c.args.dst c.args.bytes.now c.requires c.push_ep.ensures.is c.push_ep-2.ensures.is (λ i. omega (arith, c.type_inv.bytes i)))
