use Rattle.world.proofs.Words.{AreReady, ENTRIES_MAX, Err, Halted, IsTopology, Ok, Record, Stops, WorldState, ap, arith, lab_in, length, next_of, subst, sym, turn_from, ℕ, ◌∙◌, ◌≡◌, ◌≤◌}
use Rattle.world.proofs.Stepped.{IsAsked, IsKeptTo, PlaysAll, steps}
use Rattle.world.proofs.world.World.step_into.Goals as goal

pub returns-in-Ok-clause-ok : goal.returns-in-Ok-clause-ok
returns-in-Ok-clause-ok c =
    let open_still = sym (ap (λ (x : WorldState). x.stopped) c.self.view_is) ∙ c.in_default.is in
    let asked : IsAsked c.args.self.now c.args.event.now = record {
      rules = subst (λ (x : WorldState). IsTopology x.topology) c.self.view_is c.self.invariant.rules;
      event = c.requires.event;
      again = c.requires.again open_still;
      stopped = open_still;
      entries =
          let count = c.len.ensures.count in
          let most = c.len.ensures.most in
          subst (λ (x : WorldState). length x.wire ≤ ENTRIES_MAX) c.self.view_is (omega (arith, count, most));
    } in
    let kept : IsKeptTo c.args.self.now c.play.new.self = record {
      ready = subst (λ (x : WorldState). AreReady x.moment x.nodes) c.self-2.view_is c.self-2.invariant.ready;
      time = c.play.ensures.time;
      entries =
          let count = c.len-in-Ok.ensures.count in
          let most = c.len-in-Ok.ensures.most in
          subst (λ (x : WorldState). length x.wire ≤ ENTRIES_MAX) c.self-2.view_is (omega (arith, count, most));
    } in
    let index : c.begin.new.out.event ≡ c.args.index = ap (λ (r : Record). r.event) c.begin.ensures in
    let plays = subst (λ (i : ℕ). PlaysAll c.args.self.now c.play.new.self i c.args.event.now (turn_from (Ok c.in-Ok.more) c.play.new.out)) index c.in-Ok.ensures.plays in
    steps c.args.self.now c.play.new.self c.args.index c.args.event.now (turn_from (Ok c.in-Ok.more) c.play.new.out) asked c.in-Ok.ensures.turned kept plays

pub returns-in-Err-clause-cause : goal.returns-in-Err-clause-cause
returns-in-Err-clause-cause c = λ going d H s.
    let index : c.begin.new.out.event ≡ c.args.index = ap (λ (r : Record). r.event) c.begin.ensures in
    let all = subst (λ (i : ℕ). PlaysAll c.args.self.now c.play.new.self i c.args.event.now (turn_from (Err c.in-Err.stop) c.play.new.out)) index c.in-Err.ensures.plays in
    let stops : Stops d c.args.self.now c.play.new.self H (next_of (lab_in d c.args.self.now) H c.args.index c.args.event.now) c.in-Err.stop = all d H s in
    stops.cause

pub returns-in-Err-clause-left : goal.returns-in-Err-clause-left
returns-in-Err-clause-left c = λ going d H s.
    let index : c.begin.new.out.event ≡ c.args.index = ap (λ (r : Record). r.event) c.begin.ensures in
    let all = subst (λ (i : ℕ). PlaysAll c.args.self.now c.play.new.self i c.args.event.now (turn_from (Err c.in-Err.stop) c.play.new.out)) index c.in-Err.ensures.plays in
    let r = next_of (lab_in d c.args.self.now) H c.args.index c.args.event.now in
    let stops : Stops d c.args.self.now c.play.new.self H r c.in-Err.stop = all d H s in
    subst (λ (w : WorldState). Halted (lab_in d c.args.self.now) w.nodes w.nats H r) (sym c.self-2.view_is) stops.left
