use Rattle.teredo_cli.proofs.run_on_system.Goals as goal

pub returns : goal.returns
returns c = λ asked is. record { before = _; after = _; ends = c.run_on.ensures.ends asked is }
