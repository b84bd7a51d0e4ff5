use Rattle.commands.proofs.Words.{ExplainsNext, Option, Said, [], audited, err_from_is_err_and, none_written, refl, subst, ◌++◌, ◌∷◌}
use Rattle.commands.proofs.Telling.{Sinks, written_more, failed_more}
use Rattle.commands.proofs.explain_file.tell_records.Goals as goal

pub records-init : goal.records-init
records-init g c =
    let asked = c.args.asked.now in
    let begins = c.in_ok-explainer.ensures.begins in
    record {
      inside = c.in_ok-explainer.ensures.inside;
      told = record {
        records = [];
        explains = begins;
        place_is = c.told-place.ensures (audited asked.primary asked.secondary) c.args.bytes.now [] begins;
        same = refl;
        lines = none_written _;
      };
    }

pub records-preserved : goal.records-preserved
records-preserved g c =
    let asked = c.args.asked.now in
    let s = audited asked.primary asked.secondary in
    let x = c.args.bytes.now in
    let w = c.records.invariant.told in
    let more = subst (λ (o : Option Said). ExplainsNext s c.explain_next.new.self x w.records o) c.in-Some.is (c.in_ok-said.ensures.next s x w.records w.explains) in
    let later = c.told-place-in-Some.ensures s x (w.records ++ more.0 ∷ []) more.1 in
    let the : Sinks = record { o = g.K.Sink.state c.args.out.now; mid = g.K.Sink.state c.records.out; o' = g.K.Sink.state c.write_said.new.out } in
    record {
      inside = c.in_ok-said.ensures.inside;
      told = written_more the asked x _ _ c.records.place c.in-Some.said w more _ _ c.in_ok-write_said.ensures later;
    }

pub returns-in_err-write_said : goal.returns-in_err-write_said
returns-in_err-write_said g c =
    let asked = c.args.asked.now in
    let s = audited asked.primary asked.secondary in
    let x = c.args.bytes.now in
    let w = c.records.invariant.told in
    let more = subst (λ (o : Option Said). ExplainsNext s c.explain_next.new.self x w.records o) c.in-Some.is (c.in_ok-said.ensures.next s x w.records w.explains) in
    let p = err_from_is_err_and c.from_residual-in_err-write_said.result c.from_residual-in_err-write_said.ensures.1 in
    let the : Sinks = record { o = g.K.Sink.state c.args.out.now; mid = g.K.Sink.state c.records.out; o' = g.K.Sink.state c.write_said.new.out } in
    rw (p.1, p.2) (failed_more the asked x _ _ c.records.place c.in-Some.said w more _ c.in_err-write_said.ensures)
