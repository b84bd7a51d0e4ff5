use Rattle.commands.proofs.Words.{WritesNothing-refl, refl}
use Rattle.commands.proofs.Found.{Around, HasEnded, fault_ends, found_line}
use Rattle.commands.proofs.qualification.qualify_at.Goals as goal

pub returns-in_default : goal.returns-in_default
returns-in_default g c =
    let the : Around = record {
      o = g.K.Sink.state c.args.out.now;
      o' = g.K.Sink.state c.args.out.now;
      l = g.L.Link.state c.args.link.now;
      l' = g.L.Link.state c.qualify.new.link;
      c = g.C.Clock.state c.args.clock.now;
      c' = g.C.Clock.state c.qualify.new.clock;
      asked = c.args.asked.now;
    } in
    let is : HasEnded _ _ _ _ c.args.asked.now c.qualify.new.totals c.qualify.result =
    record { cause = c.qualify.ensures.receives; sends = c.qualify.ensures.sends; session = c.qualify.ensures.session } in
    fault_ends the c.qualify.ensures.asked c.qualify.new.totals c.qualify.result is (λ live ok. let err = c.in_default.is in cc) refl (WritesNothing-refl _)

pub returns : goal.returns
returns g c =
    let the : Around = record {
      o = g.K.Sink.state c.args.out.now;
      o' = g.K.Sink.state c.end_with.new.out;
      l = g.L.Link.state c.args.link.now;
      l' = g.L.Link.state c.qualify.new.link;
      c = g.C.Clock.state c.args.clock.now;
      c' = g.C.Clock.state c.qualify.new.clock;
      asked = c.args.asked.now;
    } in
    let is : HasEnded _ _ _ _ c.args.asked.now c.qualify.new.totals c.qualify.result =
    record { cause = c.qualify.ensures.receives; sends = c.qualify.ensures.sends; session = c.qualify.ensures.session } in
    let line = rw c.as_slice.ensures.value at c.end_with.ensures in
    let named = rw c.put_qualify_line.ensures at line in
    found_line the c.qualify.ensures.asked c.qualify.new.totals c.qualify.result is c.in-Ok.live c.in-Ok.is c.end_with.result (rw c.live_status.ensures at named)
