use Rattle.teredo_app.proofs.Words.{Opened, [], told}
use Rattle.teredo_app.proofs.WireHeld.{no_wire_ends, wire_ends}
use Rattle.teredo_app.proofs.scenario_file.wire.Goals as goal

pub returns-in-Ok : goal.returns-in-Ok
returns-in-Ok g c =
    let from : Opened 4194305 _ _ c.args.file.now = record { opened = c.scenario_in.ensures.opened; taken = c.scenario_in.ensures.taken } in
    let played = rw c.in-Ok.ensures.untouched at c.play_flat.ensures in
    rw c.status_of.ensures (wire_ends _ _ _ _ c.args.file.now from (told c.in-Ok.s) c.play_flat.result (record { reads = c.in-Ok.ensures.read; promised = c.in-Ok.ensures.promised [] }) c.in-Ok.ensures.quiet
    (λ H begun. c.scenarios_hold_wires.ensures (told c.in-Ok.s) [] H c.servers-rules.ensures.rules c.in-Ok.ensures.legal begun) played)

pub returns-in-Err : goal.returns-in-Err
returns-in-Err g c =
    let from : Opened 4194305 _ _ c.args.file.now = record { opened = c.scenario_in.ensures.opened; taken = c.scenario_in.ensures.taken } in
    no_wire_ends _ _ _ _ c.args.file.now from c.in-Err.status c.in-Err.ensures.ends
