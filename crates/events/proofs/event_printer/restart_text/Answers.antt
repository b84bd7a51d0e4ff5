use Rattle.events.proofs.Words.{event_text, rules, ◌≡◌}
use Rattle.events.specs.declared.event.Event.TheVariants as event
use Rattle.events.proofs.SpellingLaws.{again_restart}
use Rattle.events.proofs.event_printer.restart_text.Goals as goal

pub returns-clause-again : goal.returns-clause-again
unfolding event_text
returns-clause-again c =
    let same : c.push_node.new.text.items ≡ event_text c.args.t.now (event.Restart c.args.node) = search rules in
    rw same (again_restart c.args.t.now c.args.node c.push_node.ensures.rules c.requires)
