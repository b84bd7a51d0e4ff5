use Rattle.world.proofs.Words.{ChainsState, WorldState, ap, arith, fresh_record, state_of, subst, sym, ◌∙◌, ◌≡◌, ◌≤◌}
use Rattle.world.proofs.Routes.{same_length}
use Rattle.world.proofs.Starts.{starts_anew}
use Rattle.world.proofs.world.World.restart.Goals as goal

pub invariant_of-self : goal.invariant_of-self
invariant_of-self c =
    let is = c.restart_at.ensures.restarts in
    let few = c.self.invariant.few in
    let long = same_length c.restart_at.new.self c.self.inside.nodes is.rows in
    record {
      rules = c.self.invariant.rules;
      same = ap (λ (x : ChainsState). x.topology) c.restart.ensures.same ∙ c.self.invariant.same;
      clock = subst (λ (x : ChainsState). x.moment ≤ c.self.inside.moment.0) (sym c.restart.ensures.same) c.self.invariant.clock;
      rows = is.rows ∙ c.self.invariant.rows;
      few = omega (arith, few, long);
      ready = c.restart_at.ensures.ready c.self.inside.moment.0 c.self.invariant.ready;
      early = c.self.invariant.early;
      going = c.self.invariant.going;
    }

pub returns-clause-plays : goal.returns-clause-plays
returns-clause-plays c =
    let w = c.self.inside in
    let old = state_of w.topology.now w.nats w.moment.0 w.going w.armed w.nodes w.wire w.stopped in
    let fresh : c.args.out.now ≡ fresh_record c.args.out.now.event w.moment.0 = c.requires.fresh ∙ ap (λ (x : WorldState). fresh_record c.args.out.now.event x.moment) (sym c.self.view_is) in
    rw (← c.self.view_is, c.say.ensures, fresh) (λ d H s. starts_anew d old c.restart_at.new.self c.restart.new.self H c.args.out.now.event c.args.number s c.restart_at.ensures.restarts
    (record { stands = c.restart.ensures.stands; same = c.restart.ensures.same }))

pub returns-clause-rest : goal.returns-clause-rest
returns-clause-rest c =
    let w = c.self.inside in
    let chain : c.restart.new.self.chain ≡ w.nats.chain = ap (λ (x : ChainsState). x.chain) c.restart.ensures.same in
    let new = state_of w.topology.now c.restart.new.self w.moment.0 w.going w.armed c.restart_at.new.self w.wire w.stopped in
    rw (← c.self.view_is) (λ i. record new { chain = chain i })
