use Rattle.world.proofs.Words.{WorldState, ap, ◌∙◌}
use Rattle.world.proofs.world.World.moment.Goals as goal

pub returns-clause-kept : goal.returns-clause-kept
returns-clause-kept c = λ d H s. ap (λ (w : WorldState). w.moment) c.self.view_is ∙ s.moment

pub returns-clause-early : goal.returns-clause-early
returns-clause-early c = c.self.invariant.early
