use Rattle.world.proofs.Words.{WorldState, ap, fresh_record, state_of, sym, ◌∙◌, ◌≡◌}
use Rattle.world.proofs.Faults.{arms_send}
use Rattle.world.proofs.world.World.arm.Goals as goal

pub returns-clause-plays : goal.returns-clause-plays
returns-clause-plays c =
    let w = c.self.inside in
    let old = state_of w.topology.now w.nats w.moment.0 w.going w.armed w.nodes w.wire w.stopped in
    let fresh : c.args.out.now ≡ fresh_record c.args.out.now.event w.moment.0 = c.requires.fresh ∙ ap (λ (x : WorldState). fresh_record c.args.out.now.event x.moment) (sym c.self.view_is) in
    rw (← c.self.view_is, c.say.ensures, fresh) (λ d H s. arms_send d old H c.args.out.now.event c.args.send s)
