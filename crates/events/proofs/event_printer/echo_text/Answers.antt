use Rattle.events.proofs.Words.{arith, event_text, ◌≡◌}
use Rattle.events.specs.declared.event.Event.TheVariants as event
use Rattle.events.proofs.SpellingLaws.{again_echo, joined_four}
use Rattle.events.proofs.event_printer.echo_text.Goals as goal

pub returns-clause-again : goal.returns-clause-again
unfolding event_text
returns-clause-again c =
    let same : c.push_number.new.text.items ≡ event_text c.args.t.now (event.Echo c.args.node c.args.to c.args.seq) = grind (arith, joined_four) in
    rw same (again_echo c.args.t.now c.args.node c.args.to c.args.seq c.push_node.ensures.rules c.requires c.push_target.ensures.is (omega (arith, c.ranges.seq.fits)))
