use Rattle.nat_kinds.proofs.Words.{Err, IfOk, IsNext, Ok, Result, subst, sym, ◌∙◌}
use Rattle.nat_kinds.proofs.ShowsLemmas.{IsLowestShown, held_is, live_is_next, free_is, free_is_next}
use Rattle.nat_kinds.proofs.FrontLemmas.{held_key, no_key}
use Rattle.nat_kinds.proofs.mappings.port_for.Goals as goal

pub returns-in-Some : goal.returns-in-Some
returns-in-Some c =
    let d = c.args.departure in
    record {
      value = λ outs sound shows. held_is _ (record { idle = c.args.settings.now.idle; now = d.moment.0; places = c.args.places.now; outs = outs; sound = sound; shows = shows }) d.inside d.dst c.in-Some.port c.in-Some.ensures.live;
      next = live_is_next c.args.settings.now d.moment.0 c.args.places.now d.inside d.dst c.in-Some.port c.requires.indexed.few c.in-Some.ensures.live;
      front = c.requires.front;
      past = c.requires.past;
      key = held_key c.args.settings.now (record { places = _; index = _ }) c.args.front.now d c.in-Some.port c.requires.indexed c.in-Some.ensures.live;
    }

-- what holds of each port holds of the one that is given
of_each : {X E : Type 0} (P : X → Type 0) → ((x : X) → P x) → (r : Result X E) → IfOk r P
of_each P all (Ok x) = all x
of_each P all (Err e) = tt

pub returns : goal.returns
returns c =
    let d = c.args.departure in
    let lowest : IsLowestShown c.args.settings.now.idle d.moment.0 c.args.places.now c.lowest_free.result = record {
      all = c.lowest_free.ensures.all;
      below = c.lowest_free.ensures.below;
      from_first = c.lowest_free.ensures.from_first;
      free = c.lowest_free.ensures.free;
      lowest = c.lowest_free.ensures.lowest;
    } in
    record {
      value = λ outs sound shows. c.ok_or.ensures.value ∙ free_is _ (record {
        idle = c.args.settings.now.idle;
        now = d.moment.0;
        places = c.args.places.now;
        outs = outs;
        sound = sound;
        shows = shows;
      }) d.inside d.dst c.in_default.ensures.none c.lowest_free.result lowest;
      next = subst (λ r. IfOk r (IsNext c.args.places.now)) (sym c.ok_or.ensures.value) (free_is_next c.args.places.now c.lowest_free.result lowest.below c.lowest_free.ensures.next lowest.from_first);
      front = c.lowest_free.ensures.front;
      past = c.lowest_free.ensures.past;
      key = of_each _ (λ port. no_key c.args.settings.now _ c.lowest_free.new.front d port c.lowest_free.ensures.live c.in_default.ensures.none) c.ok_or.result;
    }
