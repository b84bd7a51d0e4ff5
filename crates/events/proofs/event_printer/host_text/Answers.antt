use Rattle.events.proofs.Words.{arith, event_text, ◌≡◌}
use Rattle.events.specs.declared.event.Event.TheVariants as event
use Rattle.events.proofs.SpellingLaws.{again_host, joined_four}
use Rattle.events.proofs.event_printer.host_text.Goals as goal

pub returns-clause-again : goal.returns-clause-again
unfolding event_text
returns-clause-again c =
    let same : c.push_bytes.new.text.items ≡ event_text c.args.t.now (event.Host c.args.node c.args.to c.args.body.now) = grind (arith, joined_four) in
    rw same (again_host c.args.t.now c.args.node c.args.to c.args.body.now c.push_node.ensures.rules c.requires c.push_target.ensures.is (λ i. omega (arith, c.type_inv.body i)))
