use Rattle.teredo_app.proofs.Words.{Opened, [], report_account, told}
use Rattle.teredo_app.proofs.Ended.{not_played_ends, played_ends}
use Rattle.teredo_app.proofs.scenario_file.lab.Goals as goal

pub returns-in-Ok : goal.returns-in-Ok
returns-in-Ok g c =
    let from : Opened 4194305 _ _ c.args.file.now = record { opened = c.scenario_in.ensures.opened; taken = c.scenario_in.ensures.taken } in
    let played = rw c.in-Ok.ensures.untouched at c.play_flat.ensures in
    rw c.status_of.ensures (played_ends report_account _ _ _ _ c.args.file.now from (told c.in-Ok.s) c.play_flat.result (record { reads = c.in-Ok.ensures.read; promised = c.in-Ok.ensures.promised [] }) c.in-Ok.ensures.quiet played)

pub returns-in-Err : goal.returns-in-Err
returns-in-Err g c =
    let from : Opened 4194305 _ _ c.args.file.now = record { opened = c.scenario_in.ensures.opened; taken = c.scenario_in.ensures.taken } in
    not_played_ends report_account _ _ _ _ c.args.file.now from c.in-Err.status c.in-Err.ensures.ends
