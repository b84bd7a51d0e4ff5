use Rattle.teredo_app.proofs.Words.{Opened, follow_command, told}
use Rattle.teredo_app.proofs.ChainEnded.{not_played_ends, scenario_ends}
use Rattle.teredo_app.proofs.follow_file.follow.Goals as goal

pub returns-in-Ok : goal.returns-in-Ok
returns-in-Ok g c =
    let from : Opened 4194305 _ _ c.args.file.now = record { opened = c.scenario_in.ensures.opened; taken = c.scenario_in.ensures.taken } in
    let played = rw c.in-Ok.ensures.untouched at c.follow_in.ensures in
    scenario_ends follow_command _ _ _ _ c.args.file.now c.args.chain.now from c.follow_in.result (told c.in-Ok.s) c.in-Ok.ensures.read c.in-Ok.ensures.promised c.in-Ok.ensures.quiet played

pub returns-in-Err : goal.returns-in-Err
returns-in-Err g c =
    let from : Opened 4194305 _ _ c.args.file.now = record { opened = c.scenario_in.ensures.opened; taken = c.scenario_in.ensures.taken } in
    not_played_ends follow_command _ _ _ _ c.args.file.now c.args.chain.now from c.in-Err.status c.in-Err.ensures.ends
