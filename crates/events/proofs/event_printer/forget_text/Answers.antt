use Rattle.events.proofs.Words.{arith, event_text, ◌≡◌}
use Rattle.events.specs.declared.event.Event.TheVariants as event
use Rattle.events.proofs.SpellingLaws.{again_forget, joined_three}
use Rattle.events.proofs.event_printer.forget_text.Goals as goal

pub returns-clause-again : goal.returns-clause-again
unfolding event_text
returns-clause-again c =
    let same : c.push_node-2.new.text.items ≡ event_text c.args.t.now (event.Forget c.args.nat c.args.client) = grind (arith, joined_three) in
    rw same (again_forget c.args.t.now c.args.nat c.args.client c.push_node.ensures.rules c.requires)
