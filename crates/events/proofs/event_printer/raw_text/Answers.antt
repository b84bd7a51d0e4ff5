use Rattle.events.proofs.Words.{arith, event_text, ◌≡◌}
use Rattle.events.specs.declared.event.Event.TheVariants as event
use Rattle.events.proofs.SpellingLaws.{again_raw, joined_three}
use Rattle.events.proofs.event_printer.raw_text.Goals as goal

pub returns-clause-again : goal.returns-clause-again
unfolding event_text
returns-clause-again c =
    let same : c.push_bytes.new.text.items ≡ event_text c.args.t.now (event.Raw c.args.node c.args.bytes.now) = grind (arith, joined_three) in
    rw same (again_raw c.args.t.now c.args.node c.args.bytes.now c.push_node.ensures.rules c.requires (λ i. omega (arith, c.type_inv.bytes i)))
