use Rattle.commands.proofs.Words.{Err, IsRefused, List, Opened, TellingEnds, TooLong, WritesNothing-refl, [], arith, length, none_written, refl, subst, ℕ, ◌<◌, ◌≤◌}
use Rattle.commands.proofs.Audited.{whole_capture, too_long}
use Rattle.commands.proofs.Explained.{IsRead, Ending, unread_ends, refusal_ends, told_ends, untold_ends}
use Rattle.commands.proofs.explain_file.explain_named.Goals as goal

pub returns-in-Err : goal.returns-in-Err
returns-in-Err g c =
    let from : Opened 100663297 _ _ c.args.file.now = record { opened = c.read_named.ensures.asked; taken = c.read_named.ensures.taken } in
    let read = c.read_named.ensures in
    rw c.from.ensures (unread_ends _ _ _ _ c.args.asked.now c.args.file.now from c.read_named.result c.in-Err.fault c.in-Err.is read.starved read.failed refl
    (WritesNothing-refl _))

pub returns-then-len-gt-CAPTURE_MAX : goal.returns-then-len-gt-CAPTURE_MAX
returns-then-len-gt-CAPTURE_MAX g c =
    let from : Opened 100663297 _ _ c.args.file.now = record { opened = c.read_named.ensures.asked; taken = c.read_named.ensures.taken } in
    let long : 100663296 < length c.in-Ok.bytes.items = omega (arith, c.len.ensures, c.if-len-gt-CAPTURE_MAX.true) in
    let (whole, named, longer) = too_long _ c.in-Ok.bytes.items c.in-Ok.ensures.text long in
    let is : IsRefused _ c.args.file.now TooLong [] = record { bytes = whole; named = named; is = (longer, refl) } in
    let the : Ending = record {
      i = g.S.Source.state c.args.src.now;
      i' = g.S.Source.state c.read_named.new.src;
      o = g.K.Sink.state c.args.out.now;
      mid = g.K.Sink.state c.args.out.now;
      o' = g.K.Sink.state c.end_no_capture.new.out;
    } in
    refusal_ends the c.args.asked.now c.args.file.now from TooLong [] c.end_no_capture.result is c.in-Ok.ensures.quiet refl (none_written _) c.end_no_capture.ensures

pub returns-in-Ok-tell_records : goal.returns-in-Ok-tell_records
returns-in-Ok-tell_records g c =
    let from : Opened 100663297 _ _ c.args.file.now = record { opened = c.read_named.ensures.asked; taken = c.read_named.ensures.taken } in
    let short : length c.in-Ok.bytes.items ≤ 100663296 = omega (arith, c.len.ensures, c.if-len-gt-CAPTURE_MAX.false) in
    let read : IsRead _ c.args.file.now c.in-Ok.bytes.items = record { named = whole_capture _ c.in-Ok.bytes.items c.in-Ok.ensures.text short; short = short } in
    let all = rw c.deref.ensures.value at c.in-Ok-tell_records.ensures in
    let line = rw c.put_tally_line.ensures at (rw c.as_slice.ensures.value at c.end_with.ensures) in
    let the : Ending = record {
      i = g.S.Source.state c.args.src.now;
      i' = g.S.Source.state c.read_named.new.src;
      o = g.K.Sink.state c.args.out.now;
      mid = g.K.Sink.state c.tell_records.new.out;
      o' = g.K.Sink.state c.end_with.new.out;
    } in
    told_ends the c.args.asked.now c.args.file.now c.in-Ok.bytes.items from read c.in-Ok.ensures.quiet c.in-Ok-tell_records.tally c.end_with.result all (rw c.tally_status.ensures at line)

pub returns : goal.returns
returns g c =
    let from : Opened 100663297 _ _ c.args.file.now = record { opened = c.read_named.ensures.asked; taken = c.read_named.ensures.taken } in
    let short : length c.in-Ok.bytes.items ≤ 100663296 = omega (arith, c.len.ensures, c.if-len-gt-CAPTURE_MAX.false) in
    let read : IsRead _ c.args.file.now c.in-Ok.bytes.items = record { named = whole_capture _ c.in-Ok.bytes.items c.in-Ok.ensures.text short; short = short } in
    let within = subst (λ (x : List ℕ). TellingEnds (g.K.Sink.state c.args.out.now) (g.K.Sink.state c.tell_records.new.out) c.args.asked.now x (Err c.in-Err-tell_records.fault)) c.deref.ensures.value c.in-Err-tell_records.ensures in
    let the : Ending = record {
      i = g.S.Source.state c.args.src.now;
      i' = g.S.Source.state c.read_named.new.src;
      o = g.K.Sink.state c.args.out.now;
      mid = g.K.Sink.state c.tell_records.new.out;
      o' = g.K.Sink.state c.end_untold.new.out;
    } in
    untold_ends the c.args.asked.now c.args.file.now c.in-Ok.bytes.items from read c.in-Ok.ensures.quiet c.in-Err-tell_records.fault c.end_untold.result within c.end_untold.ensures
