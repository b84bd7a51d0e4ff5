use Rattle.nat_kinds.proofs.Words.{Departure, NatState, refl, subst, sym, ◌≤◌}
use Rattle.nat_kinds.proofs.RecallLemmas.{Swept, swept_lately}
use Rattle.nat_kinds.proofs.StandsLemmas.{answers, stands_out_or, stands_refused_or}
use Rattle.nat_kinds.proofs.translator.Nat.outward.Goals as goal

pub returns-clause-answer : goal.returns-clause-answer
returns-clause-answer c =
    let l : c.self.inside.moment.0 ≤ c.args.now.0 = subst (λ (v : NatState). v.moment ≤ c.args.now.0) (sym c.self.view_is) c.requires.clock in
    rw (← c.self.view_is) (answers _ (record { moment = c.args.now; inside = c.args.inside; dst = c.args.dst }) c.send.result l c.send.ensures.answer)

pub returns-clause-stands : goal.returns-clause-stands
returns-clause-stands c =
    let l : c.self.inside.moment.0 ≤ c.args.now.0 = subst (λ (v : NatState). v.moment ≤ c.args.now.0) (sym c.self.view_is) c.requires.clock in
    let d : Departure = record { moment = c.args.now; inside = c.args.inside; dst = c.args.dst } in
    let swept : Swept c.self.inside.settings.idle c.args.now.0 c.self.inside.asked.entries c.sweep.new.asked.entries =
    record {
      recent = c.sweep.ensures.recent;
      within = c.sweep.ensures.kept;
      once = c.sweep.ensures.once;
      lately = swept_lately _ _ _ _ _ c.sweep.ensures.swept (λ way m k. k);
    } in
    rw (← c.self.view_is) (stands_out_or _ _ d (record {
      clock = l;
      moment = refl;
      settings = refl;
      asked = c.sweep.new.asked.entries;
      swept = swept;
      once = c.send.ensures.once;
    }) c.send.result c.send.ensures.answer c.send.ensures.put c.send.ensures.noted)

pub returns-clause-refused : goal.returns-clause-refused
returns-clause-refused c =
    let l : c.self.inside.moment.0 ≤ c.args.now.0 = subst (λ (v : NatState). v.moment ≤ c.args.now.0) (sym c.self.view_is) c.requires.clock in
    let swept : Swept c.self.inside.settings.idle c.args.now.0 c.self.inside.asked.entries c.sweep.new.asked.entries =
    record {
      recent = c.sweep.ensures.recent;
      within = c.sweep.ensures.kept;
      once = c.sweep.ensures.once;
      lately = swept_lately _ _ _ _ _ c.sweep.ensures.swept (λ way m k. k);
    } in
    rw (← c.self.view_is) (stands_refused_or _ _ c.args.now.0 (record {
      clock = l;
      moment = refl;
      settings = refl;
      asked = c.sweep.new.asked.entries;
      swept = swept;
      once = c.send.ensures.once;
    }) c.send.result c.send.ensures.same c.send.ensures.same_asked)
