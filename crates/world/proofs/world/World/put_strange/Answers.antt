use Rattle.world.proofs.Words.{refl}
use Rattle.events.specs.declared.event.Event.TheVariants as event
use Rattle.world.proofs.world.World.put_strange.Goals as goal

pub returns-clause-plays : goal.returns-clause-plays
returns-clause-plays c = λ d H s. c.put.ensures.plays d H s (event.Stranger c.args.src c.args.dst c.args.bytes.now) refl
