use Rattle.world.proofs.Words.{ChainsState, IsForgotten, Node, Some, TopologyState, WorldState, ap, as_client, client, fresh_record, is_nat, node_at, option_and_then, state_of, subst, sym, true, ◌∙◌, ◌≡◌, ◌≤◌}
use Rattle.world.proofs.Starts.{forgets}
use Rattle.world.proofs.world.World.forget.Goals as goal

pub forget-requires : goal.forget-requires
forget-requires c =
    let w = c.self.inside in
    let event = subst (λ (x : WorldState). IsForgotten x.topology c.args.number c.args.who) (sym c.self.view_is) c.requires.event in
    record { nat = subst (λ (t : TopologyState). is_nat (node_at t c.args.number) ≡ true) (sym c.self.invariant.same) event.by }

pub invariant_of-self : goal.invariant_of-self
invariant_of-self c = record {
  rules = c.self.invariant.rules;
  same = ap (λ (x : ChainsState). x.topology) c.forget.ensures.same ∙ c.self.invariant.same;
  clock = subst (λ (x : ChainsState). x.moment ≤ c.self.inside.moment.0) (sym c.forget.ensures.same) c.self.invariant.clock;
  rows = c.self.invariant.rows;
  few = c.self.invariant.few;
  ready = c.self.invariant.ready;
  early = c.self.invariant.early;
  going = c.self.invariant.going;
}

pub returns-clause-plays : goal.returns-clause-plays
returns-clause-plays c =
    let w = c.self.inside in
    let old = state_of w.topology.now w.nats w.moment.0 w.going w.armed w.nodes w.wire w.stopped in
    let there : node_at w.topology.now c.args.who ≡ Some (client c.in-Some-Client.row) = ap (node_at w.topology.now) (sym c.from.ensures)
    ∙ sym c.node.ensures.found ∙ c.in-Some-Client.is ∙ ap (λ (a : Node). Some a) c.in-Some-Client.field-0-is in
    let fresh : c.args.out.now ≡ fresh_record c.args.out.now.event w.moment.0 = c.requires.fresh ∙ ap (λ (x : WorldState). fresh_record c.args.out.now.event x.moment) (sym c.self.view_is) in
    rw (← c.self.view_is, c.say.ensures, fresh) (λ d H s. forgets d old c.forget.new.self H c.args.out.now.event c.args.number c.args.who c.in-Some-Client.row s (ap (option_and_then as_client) there)
    (record { stands = c.forget.ensures.stands; same = c.forget.ensures.same }))

pub returns-clause-rest : goal.returns-clause-rest
returns-clause-rest c =
    let w = c.self.inside in
    let chain : c.forget.new.self.chain ≡ w.nats.chain = ap (λ (x : ChainsState). x.chain) c.forget.ensures.same in
    let new = state_of w.topology.now c.forget.new.self w.moment.0 w.going w.armed w.nodes w.wire w.stopped in
    rw (← c.self.view_is) (λ i. record new { chain = chain i })
