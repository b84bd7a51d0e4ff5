use Rattle.generator.proofs.EventRules.{made_events_are}
use Rattle.generator.proofs.Stream.{so_many}
use Rattle.generator.proofs.generated.generate.Goals as goal

pub returns-clause-legal : goal.returns-clause-legal
returns-clause-legal c = made_events_are _ _ c.args.seed c.args.count c.in_ok-generated_nodes.ensures c.in_ok-generated_events.ensures c.requires.few

pub returns-clause-count : goal.returns-clause-count
returns-clause-count c = so_many c.args.seed c.args.count _ c.in_ok-generated_events.ensures
