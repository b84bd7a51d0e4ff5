use Rattle.world.proofs.Words.{IfOk, Result, Steps, Stop, Turn, subst}
use Rattle.world.proofs.world.World.step.Goals as goal

pub returns-clause-ok : goal.returns-clause-ok
returns-clause-ok c =
    subst (λ (played : Result Turn Stop). IfOk played (λ turn. Steps c.args.self.now c.step_into.new.self c.args.index c.args.event.now turn)) c.turn_with.ensures c.in_ok-more.ensures.ok
