use Rattle.commands.proofs.Words.{Audits, FindsNoCapture, Opened, TooLong, WritesNothing-refl, arith, length, refl, ◌<◌, ◌≤◌}
use Rattle.commands.specs.declared.audit_line.NoCapture.TheVariants.{Fault}
use Rattle.commands.proofs.Audited.{whole_capture, too_long, starved_ends, unread_ends, verdict_ends, no_capture_ends}
use Rattle.commands.proofs.audit_file.audit_named.Goals as goal

pub returns-in-Err : goal.returns-in-Err
returns-in-Err g c =
    let from : Opened 100663297 _ _ c.args.file.now = record { opened = c.read_named.ensures.asked; taken = c.read_named.ensures.taken } in
    let read = c.read_named.ensures in
    rw c.from.ensures (unread_ends _ _ _ _ c.args.asked.now c.args.file.now from c.read_named.result c.in-Err.fault c.in-Err.is read.starved read.failed refl
    (WritesNothing-refl _))

pub returns-then-len-gt-CAPTURE_MAX : goal.returns-then-len-gt-CAPTURE_MAX
returns-then-len-gt-CAPTURE_MAX g c =
    let from : Opened 100663297 _ _ c.args.file.now = record { opened = c.read_named.ensures.asked; taken = c.read_named.ensures.taken } in
    let long : 100663296 < length c.in-Ok.bytes.items = omega (arith, c.len.ensures, c.if-len-gt-CAPTURE_MAX.true) in
    let (whole, named, longer) = too_long _ c.in-Ok.bytes.items c.in-Ok.ensures.text long in
    let found : FindsNoCapture _ c.args.file.now TooLong = record { bytes = whole; named = named; is = longer } in
    no_capture_ends _ _ _ _ c.args.asked.now c.args.file.now from TooLong c.end_no_capture.result found c.in-Ok.ensures.quiet c.end_no_capture.ensures

pub returns-in-Ok-audit : goal.returns-in-Ok-audit
returns-in-Ok-audit g c =
    let from : Opened 100663297 _ _ c.args.file.now = record { opened = c.read_named.ensures.asked; taken = c.read_named.ensures.taken } in
    let short : length c.in-Ok.bytes.items ≤ 100663296 = omega (arith, c.len.ensures, c.if-len-gt-CAPTURE_MAX.false) in
    let judged = rw c.deref.ensures.value at c.in-Ok-audit.ensures.judged in
    let found : Audits _ c.args.asked.now c.args.file.now c.in-Ok-audit.verdict = record {
      bytes = c.in-Ok.bytes.items;
      named = whole_capture _ c.in-Ok.bytes.items c.in-Ok.ensures.text short;
      is = record { short = short; judged = judged };
    } in
    let line = rw c.as_slice.ensures.value at c.end_with.ensures in
    let named = rw c.put_verdict_line.ensures at line in
    verdict_ends _ _ _ _ c.args.asked.now c.args.file.now from c.in-Ok-audit.verdict c.end_with.result found c.in-Ok.ensures.quiet (rw c.verdict_status.ensures at named)

pub returns-in-Err-Capture : goal.returns-in-Err-Capture
returns-in-Err-Capture g c =
    let from : Opened 100663297 _ _ c.args.file.now = record { opened = c.read_named.ensures.asked; taken = c.read_named.ensures.taken } in
    let short : length c.in-Ok.bytes.items ≤ 100663296 = omega (arith, c.len.ensures, c.if-len-gt-CAPTURE_MAX.false) in
    let fault = rw c.deref.ensures.value at c.in-Err-Capture.ensures.fault in
    let found : FindsNoCapture _ c.args.file.now (Fault c.in-Err-Capture.fault) = record {
      bytes = c.in-Ok.bytes.items;
      named = whole_capture _ c.in-Ok.bytes.items c.in-Ok.ensures.text short;
      is = (short, rw (c.in-Err-Capture.field-0-is) at fault);
    } in
    no_capture_ends _ _ _ _ c.args.asked.now c.args.file.now from (Fault c.in-Err-Capture.fault) c.end_no_capture-in-Err-Capture.result found c.in-Ok.ensures.quiet
    c.end_no_capture-in-Err-Capture.ensures

pub returns : goal.returns
returns g c =
    let from : Opened 100663297 _ _ c.args.file.now = record { opened = c.read_named.ensures.asked; taken = c.read_named.ensures.taken } in
    starved_ends _ _ _ _ c.args.asked.now c.args.file.now from (record { source = c.in-Ok.ensures.quiet; sink = refl }) (WritesNothing-refl _)
