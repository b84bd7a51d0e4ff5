use Rattle.world.proofs.Words.{Draws, Event, IsThere, List, None, Ok, Plays, Some, StandsFor, WireState, WorldState, [], ap, arms, by_route, forgotten, fresh_record, item_lent, lab_on, length, nodes, numbered, option_map, played, reach_node, reaches, route, slice_get, state_of, subst, sym, with_deed, ◌<◌, ◌∙◌, ◌≡◌}
use Rattle.teredo_node.specs.declared.fate.Fate.TheVariants as fate
use Rattle.history.specs.declared.act.Act.TheVariants as act
use Rattle.history.specs.Full.{Full}
use Rattle.world.proofs.Routes.{there_at, within_as}
use Rattle.world.proofs.Answered as answered
use Rattle.world.proofs.Answered.{Delivery, IsDelivery, record_in}
use Rattle.world.proofs.world.World.deliver.Goals as goal

pub returns-in-Astray-clause-plays : goal.returns-in-Astray-clause-plays
returns-in-Astray-clause-plays c =
    let w = c.self.inside in
    let old = state_of w.topology.now w.nats w.moment.0 w.going w.armed w.nodes w.wire w.stopped in
    let item = item_lent c.in-Some.entry in
    let there : slice_get w.wire.items c.args.number ≡ Some item = sym c.get.ensures.lent ∙ ap (λ o. option_map item_lent o) c.in-Some.is in
    let x : Draws → List Full → Event → Delivery = λ d H e. record { draws = d; world = old; history = H; event = numbered c.args.out.now.event e; number = c.args.number; item = item } in
    let is : (d : Draws) (H : List Full) (e : Event) → StandsFor d old H → forgotten (lab_on d w.topology.now w.nats.chain) e ≡ []
    → arms e ≡ None → IsDelivery (x d H e) = λ d H e s keeps mild. record {
      stands = s;
      there = there;
      within = c.in-Some.ensures.marked;
      keeps = keeps;
      mild = mild;
    } in
    let fresh : c.args.out.now ≡ fresh_record c.args.out.now.event w.moment.0 = c.requires.fresh ∙ ap (λ (x : WorldState). fresh_record c.args.out.now.event x.moment) (sym c.self.view_is) in
    rw (← c.self.view_is, c.say-in-Astray.ensures, fresh) (λ d H s e keeps mild.
    let goes = sym (c.route_of.ensures.route d H s.nats) ∙ ap (by_route w.topology.now) c.in-Astray.is in
    subst (λ (z : WireState). Plays d old (state_of w.topology.now w.nats w.moment.0 w.going w.armed w.nodes z w.stopped) H
    (record_in (x d H e)) (Ok (with_deed (fresh_record c.args.out.now.event w.moment.0) (act.Deliver c.args.number) None fate.Nowhere)))
    (sym c.set_delivered.ensures) (answered.strays (x d H e) (is d H e s keeps mild) goes))

pub returns-in-Closed-clause-plays : goal.returns-in-Closed-clause-plays
returns-in-Closed-clause-plays c =
    let w = c.self.inside in
    let old = state_of w.topology.now w.nats w.moment.0 w.going w.armed w.nodes w.wire w.stopped in
    let item = item_lent c.in-Some.entry in
    let there : slice_get w.wire.items c.args.number ≡ Some item = sym c.get.ensures.lent ∙ ap (λ o. option_map item_lent o) c.in-Some.is in
    let x : Draws → List Full → Event → Delivery = λ d H e. record { draws = d; world = old; history = H; event = numbered c.args.out.now.event e; number = c.args.number; item = item } in
    let is : (d : Draws) (H : List Full) (e : Event) → StandsFor d old H → forgotten (lab_on d w.topology.now w.nats.chain) e ≡ []
    → arms e ≡ None → IsDelivery (x d H e) = λ d H e s keeps mild. record {
      stands = s;
      there = there;
      within = c.in-Some.ensures.marked;
      keeps = keeps;
      mild = mild;
    } in
    let fresh : c.args.out.now ≡ fresh_record c.args.out.now.event w.moment.0 = c.requires.fresh ∙ ap (λ (x : WorldState). fresh_record c.args.out.now.event x.moment) (sym c.self.view_is) in
    rw (← c.self.view_is, c.say-in-Closed.ensures, fresh) (λ d H s e keeps mild.
    let goes = sym (c.route_of.ensures.route d H s.nats) ∙ ap (by_route w.topology.now) c.in-Closed.is in
    subst (λ (z : WireState). Plays d old (state_of w.topology.now w.nats w.moment.0 w.going w.armed w.nodes z w.stopped) H
    (record_in (x d H e)) (Ok (with_deed (fresh_record c.args.out.now.event w.moment.0) (act.Deliver c.args.number)
    (Some c.in-Closed.nat) fate.NatClosed))) (sym c.set_delivered-in-Closed.ensures)
    (answered.shut_out (x d H e) c.in-Closed.nat (is d H e s keeps mild) goes))

pub returns-in-Reaches-clause-plays : goal.returns-in-Reaches-clause-plays
returns-in-Reaches-clause-plays c =
    let w = c.self.inside in
    let old = state_of w.topology.now w.nats w.moment.0 w.going w.armed w.nodes w.wire w.stopped in
    let item = item_lent c.in-Some.entry in
    let there : slice_get w.wire.items c.args.number ≡ Some item = sym c.get.ensures.lent ∙ ap (λ o. option_map item_lent o) c.in-Some.is in
    let here = there_at w.topology.now c.in-Reaches.node (subst (IsThere w.topology.now) c.in-Reaches.is c.route_of.ensures.there) in
    rw (← c.self.view_is) (λ d H s e keeps mild.
    let x : Delivery = record { draws = d; world = old; history = H; event = numbered c.args.out.now.event e; number = c.args.number; item = item } in
    let is : IsDelivery x = record { stands = s; there = there; within = c.in-Some.ensures.marked; keeps = keeps; mild = mild } in
    let goes : route (lab_on d w.topology.now w.nats.chain) H w.moment.0 item ≡ reaches c.in-Reaches.node here.0 =
    sym (c.route_of.ensures.route d H s.nats) ∙ ap (by_route w.topology.now) c.in-Reaches.is ∙ ap (reach_node c.in-Reaches.node) here.1 in
    answered.taken x c.act.new.self (played c.act.result c.act.new.out) c.in-Reaches.node here.0 is goes
    (c.act.ensures.plays d H (record { nodes = s.nodes; nats = s.nats; wire = s.wire; armed = s.armed }) e keeps mild here.0 here.1))

pub returns-in_default-clause-plays : goal.returns-in_default-clause-plays
returns-in_default-clause-plays c =
    let w = c.self.inside in
    let old = state_of w.topology.now w.nats w.moment.0 w.going w.armed w.nodes w.wire w.stopped in
    let none : slice_get w.wire.items c.args.number ≡ None = sym c.get.ensures.lent ∙ ap (λ o. option_map item_lent o) c.in_default.is in
    let fresh : c.args.out.now ≡ fresh_record c.args.out.now.event w.moment.0 = c.requires.fresh ∙ ap (λ (x : WorldState). fresh_record c.args.out.now.event x.moment) (sym c.self.view_is) in
    rw (← c.self.view_is, c.say.ensures, fresh) (λ d H s e keeps mild. answered.missing d old H (numbered c.args.out.now.event e) c.args.number s keeps mild none)

pub act-requires-clause-within : goal.act-requires-clause-within
act-requires-clause-within c =
    let w = c.self.inside in
    let there : c.in-Reaches.node < length (nodes w.topology.now) = subst (IsThere w.topology.now) c.in-Reaches.is c.route_of.ensures.there in
    within_as w.topology.now w.nodes c.in-Reaches.node c.self.invariant.rows there
