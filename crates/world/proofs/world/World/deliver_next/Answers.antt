use Rattle.world.proofs.Words.{None, Ok, Plays, StandsFor, WireState, WorldState, ap, delivers, false, fresh_record, get_or, lab_in, lab_on, length, next_of, numbered, plain, played, refl, state_of, subst, sym, true, with_deed, ℕ, ◌<◌, ◌∙◌, ◌≡◌}
use Rattle.teredo_node.specs.declared.fate.Fate.TheVariants as fate
use Rattle.events.specs.declared.event.Event.TheVariants as event
use Rattle.events.specs.declared.verb.Verb.TheVariants as verb
use Rattle.world.proofs.Opened.{plays_next, plays_none}
use Rattle.world.proofs.world.World.deliver_next.Goals as goal

pub returns-in-Some-clause-plays : goal.returns-in-Some-clause-plays
returns-in-Some-clause-plays c = λ d H s.
    let w = c.self.inside in
    let mid = state_of w.topology.now w.nats w.moment.0 w.going w.armed w.nodes c.first_undelivered.new.self w.stopped in
    let same : mid ≡ c.args.self.now = ap (λ (z : WireState). state_of w.topology.now w.nats w.moment.0 w.going w.armed w.nodes z w.stopped) c.first_undelivered.ensures.same ∙ c.self.view_is in
    let n = c.in-Some.number in
    plays_next d c.args.self.now c.deliver.new.self H c.args.out.now.event n (played c.deliver.result c.deliver.new.out) s
    (subst (λ (x : WorldState). (n < length x.wire) × (get_or x.done n false ≡ false) × ((k : ℕ) → k < n → get_or x.done k false ≡ true)) c.self.view_is c.in-Some.ensures.found)
    (subst (λ (x : WorldState). Plays d x c.deliver.new.self H (delivers (lab_in d x) H (numbered c.args.out.now.event event.Next) n)
    (played c.deliver.result c.deliver.new.out)) same (c.deliver.ensures.plays d H
    (subst (λ (x : WorldState). StandsFor d x H) (sym same) s) event.Next refl refl))

pub returns-in-None-clause-plays : goal.returns-in-None-clause-plays
returns-in-None-clause-plays c =
    let w = c.self.inside in
    let old = state_of w.topology.now w.nats w.moment.0 w.going w.armed w.nodes w.wire w.stopped in
    let fresh : c.args.out.now ≡ fresh_record c.args.out.now.event w.moment.0 = c.requires.fresh ∙ ap (λ (x : WorldState). fresh_record c.args.out.now.event x.moment) (sym c.self.view_is) in
    rw (← c.self.view_is, c.say.ensures, fresh) (λ d H s.
    subst (λ (z : WireState). Plays d old (state_of w.topology.now w.nats w.moment.0 w.going w.armed w.nodes z w.stopped) H
    (next_of (lab_on d w.topology.now w.nats.chain) H c.args.out.now.event event.Next)
    (Ok (with_deed (fresh_record c.args.out.now.event w.moment.0) (plain verb.Next) None fate.NoEntry)))
    (sym c.first_undelivered.ensures.same) (plays_none d old H c.args.out.now.event s c.in-None.ensures.none))
