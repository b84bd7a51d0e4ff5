use Rattle.world.proofs.Words.{Draws, Due, DueNode, Err, Event, IsAgain, List, None, NoneIsDue, Ok, Plays, Record, Result, Some, StandsFor, Stop, WorldState, [], ap, arith, arms, due_as, err_from_is_err_and, forgotten, fresh_record, lab_in, least_due, node_at, nodes, numbered, plain, refl, subst, sym, ticks_at, with_deed, ℕ, ◌+◌, ◌∙◌, ◌≡◌}
use Rattle.teredo_node.specs.declared.fate.Fate.TheVariants as fate
use Rattle.events.specs.declared.verb.Verb.TheVariants as verb
use Rattle.events.specs.declared.event.Event.TheVariants as event
use Rattle.history.specs.Full.{Full}
use Rattle.world.proofs.Ticking.{passes, ticks, tick_stops, due_is_there, in_going}
use Rattle.world.proofs.world.World.advance.Goals as goal

-- the tick of a node is played, or isn't
abbrev PlaysTick : Due → WorldState → ℕ → Result Record Stop → WorldState → Type 0
PlaysTick due new index result old = (d : Draws) (H : List Full) → StandsFor d old H → (e : Event) → forgotten (lab_in d old) e ≡ [] → arms e ≡ None
    → (x : DueNode) → due_as x ≡ due → node_at old.topology x.number ≡ Some x.node → Plays d old new H (ticks_at d old H (numbered index e) x) result

pub pass-requires-clause-later : goal.pass-requires-clause-later
pass-requires-clause-later c =
    let w = c.self.inside in
    let again = subst (λ (x : WorldState). IsAgain x.going (event.Advance c.args.ms)) (sym c.self.view_is) c.requires.again in
    let le = in_going w.moment.0 w.going c.args.ms again c.self.invariant.going in
    let at = ap (λ (x : WorldState). x.moment) c.self.view_is in
    let from = ap (λ (x : WorldState). x.began) c.self.view_is in
    let start = c.began-began.ensures in
    let still = ap (λ (x : WorldState). x.moment) c.in_default.ensures.same in
    omega (arith, le, at, from, start, still)

pub tick-requires-clause-going : goal.tick-requires-clause-going
tick-requires-clause-going c =
    let w = c.self.inside in
    let again = subst (λ (x : WorldState). IsAgain x.going (event.Advance c.args.ms)) (sym c.self.view_is) c.requires.again in
    let le = in_going w.moment.0 w.going c.args.ms again c.self.invariant.going in
    let at = ap (λ (x : WorldState). x.moment) c.self.view_is in
    let from = ap (λ (x : WorldState). x.began) c.self.view_is in
    let start = c.began-began.ensures in
    let still = ap (λ (x : WorldState). x.moment) c.in-Some.ensures.same in
    let time = c.requires.time in
    (omega (arith, le, at, from, start, still), omega (arith, start, time))

pub returns-in_default-clause-plays : goal.returns-in_default-clause-plays
returns-in_default-clause-plays c = λ d H s.
    let w = c.args.self.now in
    let end : c.began-began.result.0 + c.args.ms ≡ w.began + c.args.ms = ap (λ (m : ℕ). m + c.args.ms) c.began-began.ensures in
    let past = subst (λ (m : ℕ). NoneIsDue m (least_due (lab_in d w) H 0 (nodes w.topology))) end (c.in_default.ensures.none d H s) in
    let ends : WorldState → WorldState = λ x. record x { moment = c.began-began.result.0 + c.args.ms; began = c.began-began.result.0 + c.args.ms; going = None } in
    let same = c.pass.ensures.rest ∙ ap ends c.in_default.ensures.same in
    let turn = passes d w c.pass.new.self H c.args.out.now.event c.args.ms s past (
      ap (λ (x : WorldState). x.moment) same ∙ end,
      ap (λ (x : WorldState). x.nodes) same,
      ap (λ (x : WorldState). x.nats) same,
      ap (λ (x : WorldState). x.wire) same,
      ap (λ (x : WorldState). x.done) same,
      ap (λ (x : WorldState). x.armed) same,
    ) in
    (c.pass.ensures.record_is ∙ ap (λ (m : ℕ). with_deed (fresh_record c.args.out.now.event m) (plain verb.Advance) None fate.Done) end ∙ turn.0, turn.1, turn.2)

pub returns-clause-plays : goal.returns-clause-plays
returns-clause-plays c = λ d H s.
    let w = c.args.self.now in
    let end : c.began-began.result.0 + c.args.ms ≡ w.began + c.args.ms = ap (λ (m : ℕ). m + c.args.ms) c.began-began.ensures in
    let due = c.in-Some.ensures.due d H s in
    let moment : due.tick.moment ≡ c.in-Some.due.moment.0 = ap (λ (y : Due). y.moment.0) due.is in
    let before = c.in-Some.ensures.early in
    let plays = subst (PlaysTick c.in-Some.due c.tick.new.self c.args.out.now.event (Ok c.tick.new.out)) c.in-Some.ensures.same c.in_ok-tick.ensures.plays in
    ticks d w c.tick.new.self H c.args.out.now.event c.args.ms due.tick c.tick.new.out s due.least (omega (arith, end, before, moment))
    (plays d H s (event.Advance c.args.ms) refl refl due.tick due.is (due_is_there (lab_in d w) H due.tick due.least))

pub returns-in_err-tick-clause-plays : goal.returns-in_err-tick-clause-plays
returns-in_err-tick-clause-plays c =
    let p = err_from_is_err_and c.from_residual.result c.from_residual.ensures.1 in
    rw (p.1, p.2) (λ d H s.
    let w = c.args.self.now in
    let end : c.began-began.result.0 + c.args.ms ≡ w.began + c.args.ms = ap (λ (m : ℕ). m + c.args.ms) c.began-began.ensures in
    let due = c.in-Some.ensures.due d H s in
    let moment : due.tick.moment ≡ c.in-Some.due.moment.0 = ap (λ (y : Due). y.moment.0) due.is in
    let before = c.in-Some.ensures.early in
    let plays = subst (PlaysTick c.in-Some.due c.tick.new.self c.args.out.now.event (Err c.in_err-tick.field-0.0)) c.in-Some.ensures.same c.in_err-tick.ensures.plays in
    tick_stops d w c.tick.new.self H c.args.out.now.event c.args.ms due.tick c.in_err-tick.field-0.0 s due.least (omega (arith, end, before, moment))
    (plays d H s (event.Advance c.args.ms) refl refl due.tick due.is (due_is_there (lab_in d w) H due.tick due.least)))
