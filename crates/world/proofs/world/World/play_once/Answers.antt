use Rattle.world.proofs.Words.{AreOf, Event, List, Plays, WorldState, ap, false≢true, hands_in, lab_in, may_go_on, next_of, node_at, numbered, played, refl, subst, sym, ℕ, ◌∙◌}
use Rattle.events.specs.declared.event.Event.TheVariants as event
use Rattle.events.specs.declared.verb.Verb.TheVariants as verb
use Rattle.world.proofs.Hands.{IsWithin, event_within}
use Rattle.world.proofs.world.World.play_once.Goals as goal

pub unreachable-requires : goal.unreachable-requires
unreachable-requires c = false≢true (sym c.requires.once ∙ ap may_go_on c.in-Advance.is)

pub unreachable-requires-in-Settle : goal.unreachable-requires-in-Settle
unreachable-requires-in-Settle c = false≢true (sym c.requires.once ∙ ap may_go_on c.in-Settle.is)

pub returns-in-Deliver-clause-plays : goal.returns-in-Deliver-clause-plays
returns-in-Deliver-clause-plays c = rw (c.in-Deliver.is) (λ d H s. c.deliver.ensures.plays d H s (event.Deliver c.in-Deliver.number) refl refl)

pub returns-in-Next-clause-plays : goal.returns-in-Next-clause-plays
returns-in-Next-clause-plays c = rw (c.in-Next.is) c.deliver_next.ensures.plays

pub returns-in-Raw-clause-plays : goal.returns-in-Raw-clause-plays
returns-in-Raw-clause-plays c = rw (c.in-Raw.is) (λ d H s.
    let e = event.Raw c.in-Raw.node c.in-Raw.bytes in
    let t = c.args.self.now.topology in
    subst (λ (x : List ℕ). Plays d c.args.self.now c.hand.new.self H
    (hands_in (lab_in d c.args.self.now) H (numbered c.args.out.now.event e) verb.Raw c.in-Raw.node x (node_at t c.in-Raw.node))
    (played c.hand.result c.hand.new.out)) c.as_slice-in-Raw.ensures
    (c.hand.ensures.plays d H s e refl refl))

pub returns-in-Stranger-clause-plays : goal.returns-in-Stranger-clause-plays
returns-in-Stranger-clause-plays c = rw (c.in-Stranger.is) (λ d H s.
    let lab = lab_in d c.args.self.now in
    subst (λ (x : List ℕ). Plays d c.args.self.now c.put_strange.new.self H
    (next_of lab H c.args.out.now.event (event.Stranger c.in-Stranger.src c.in-Stranger.dst x))
    (played c.put_strange.result c.put_strange.new.out)) c.as_slice-in-Stranger.ensures
    (c.put_strange.ensures.plays d H s))

pub send_data-requires-clause-within : goal.send_data-requires-clause-within
send_data-requires-clause-within c =
    let w = c.args.self.now in
    let rows = subst (λ (x : WorldState). AreOf x.topology x.nodes) c.self.view_is c.self.invariant.rows in
    subst (λ (e : Event). IsWithin e w.nodes) c.in-Host.is (event_within w.topology w.nodes c.args.event.now rows c.requires.event)

pub send_echo-requires-clause-within : goal.send_echo-requires-clause-within
send_echo-requires-clause-within c =
    let w = c.args.self.now in
    let rows = subst (λ (x : WorldState). AreOf x.topology x.nodes) c.self.view_is c.self.invariant.rows in
    subst (λ (e : Event). IsWithin e w.nodes) c.in-Echo.is (event_within w.topology w.nodes c.args.event.now rows c.requires.event)

pub hand-requires-clause-within : goal.hand-requires-clause-within
hand-requires-clause-within c =
    let w = c.args.self.now in
    let rows = subst (λ (x : WorldState). AreOf x.topology x.nodes) c.self.view_is c.self.invariant.rows in
    subst (λ (e : Event). IsWithin e w.nodes) c.in-Raw.is (event_within w.topology w.nodes c.args.event.now rows c.requires.event)

pub restart-requires-clause-within : goal.restart-requires-clause-within
restart-requires-clause-within c =
    let w = c.args.self.now in
    let rows = subst (λ (x : WorldState). AreOf x.topology x.nodes) c.self.view_is c.self.invariant.rows in
    subst (λ (e : Event). IsWithin e w.nodes) c.in-Restart.is (event_within w.topology w.nodes c.args.event.now rows c.requires.event)
