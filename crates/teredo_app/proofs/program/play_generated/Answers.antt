use Rattle.teredo_app.proofs.Words.{[], kept_in_scenarios, told}
use Rattle.teredo_app.proofs.Generated.{played_ends}
use Rattle.teredo_app.proofs.program.play_generated.Goals as goal

pub returns : goal.returns
returns g c = rw c.status_of.ensures (played_ends _ _ c.args.asked.now (told c.in-Ok.s) c.play_flat.result c.in-Ok.ensures.value
    (kept_in_scenarios (told c.in-Ok.s) [] c.servers-rules.ensures.rules c.in-Ok.ensures.legal) c.play_flat.ensures)
