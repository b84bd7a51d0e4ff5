use Rattle.world.proofs.Words.{Err, Last, More, None, Ok, Plays, PlaysTurn, Some, StandsFor, WireState, WorldState, ap, delivers, err_from_is_err_and, fresh_record, lab_in, lab_on, next_of, numbered, plain, refl, state_of, subst, sym, with_deed, ◌∙◌, ◌≡◌}
use Rattle.teredo_node.specs.declared.fate.Fate.TheVariants as fate
use Rattle.events.specs.declared.event.Event.TheVariants as event
use Rattle.events.specs.declared.verb.Verb.TheVariants as verb
use Rattle.world.proofs.Opened.{IsLeast, goes_on, settles, settle_stops, settled}
use Rattle.world.proofs.world.World.settle.Goals as goal

pub returns-in_default-clause-plays : goal.returns-in_default-clause-plays
returns-in_default-clause-plays c =
    let w = c.self.inside in
    let i = c.args.out.now.event in
    let old = state_of w.topology.now w.nats w.moment.0 w.going w.armed w.nodes w.wire w.stopped in
    let new : WireState → WorldState = λ z. state_of w.topology.now w.nats w.moment.0 None w.armed w.nodes z w.stopped in
    let fresh : c.args.out.now ≡ fresh_record i w.moment.0 = c.requires.fresh ∙ ap (λ (x : WorldState). fresh_record i x.moment) (sym c.self.view_is) in
    rw (← c.self.view_is, c.say.ensures, fresh) (λ d H s.
    subst (λ (z : WireState). PlaysTurn d old (new z) H (next_of (lab_on d w.topology.now w.nats.chain) H i event.Settle)
    (Ok (Last (with_deed (fresh_record i w.moment.0) (plain verb.Settle) None fate.Done)))) (sym c.first_undelivered.ensures.same)
    (settled d old (new w.wire) H i s c.in_default.ensures.none (refl, refl, refl, refl, refl, refl)))

pub returns-clause-plays : goal.returns-clause-plays
returns-clause-plays c = λ d H s.
    let w = c.self.inside in
    let old = c.args.self.now in
    let i = c.args.out.now.event in
    let n = c.in-Some.number in
    let mid = state_of w.topology.now w.nats w.moment.0 w.going w.armed w.nodes c.first_undelivered.new.self w.stopped in
    let same : mid ≡ old = ap (λ (z : WireState). state_of w.topology.now w.nats w.moment.0 w.going w.armed w.nodes z w.stopped) c.first_undelivered.ensures.same ∙ c.self.view_is in
    let least : IsLeast old n = subst (λ (x : WorldState). IsLeast x n) c.self.view_is c.in-Some.ensures.found in
    let before : StandsFor d mid H = subst (λ (x : WorldState). StandsFor d x H) (sym same) s in
    let r = delivers (lab_in d old) H (numbered i event.Settle) n in
    let plays : Plays d old c.deliver.new.self H r (Ok c.deliver.new.out) =
    subst (λ (x : WorldState). Plays d x c.deliver.new.self H (delivers (lab_in d x) H (numbered i event.Settle) n) (Ok c.deliver.new.out)) same
    (c.in_ok-deliver.ensures.plays d H before event.Settle refl refl) in
    let to : WorldState → WorldState = λ x. record x { began = x.moment; going = Some event.Settle } in
    subst (λ (x : WorldState). PlaysTurn d old (to x) H (next_of (lab_in d old) H i event.Settle) (Ok (More c.deliver.new.out))) (sym c.self-2.view_is)
    (settles d old (to c.deliver.new.self) H i n c.deliver.new.out s least (goes_on d old c.deliver.new.self H r c.deliver.new.out plays))

pub returns-in_err-deliver-clause-plays : goal.returns-in_err-deliver-clause-plays
returns-in_err-deliver-clause-plays c =
    let p = err_from_is_err_and c.from_residual.result c.from_residual.ensures.1 in
    rw (p.1, p.2) (λ d H s.
    let w = c.self.inside in
    let old = c.args.self.now in
    let i = c.args.out.now.event in
    let n = c.in-Some.number in
    let mid = state_of w.topology.now w.nats w.moment.0 w.going w.armed w.nodes c.first_undelivered.new.self w.stopped in
    let same : mid ≡ old = ap (λ (z : WireState). state_of w.topology.now w.nats w.moment.0 w.going w.armed w.nodes z w.stopped) c.first_undelivered.ensures.same ∙ c.self.view_is in
    let least : IsLeast old n = subst (λ (x : WorldState). IsLeast x n) c.self.view_is c.in-Some.ensures.found in
    let before : StandsFor d mid H = subst (λ (x : WorldState). StandsFor d x H) (sym same) s in
    settle_stops d old c.deliver.new.self H i n c.in_err-deliver.field-0.0 s least
    (subst (λ (x : WorldState). Plays d x c.deliver.new.self H (delivers (lab_in d x) H (numbered i event.Settle) n) (Err c.in_err-deliver.field-0.0)) same
    (c.in_err-deliver.ensures.plays d H before event.Settle refl refl)))
