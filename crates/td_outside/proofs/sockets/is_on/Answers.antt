use Rattle.td_outside.proofs.Opened.{on_both}
use Rattle.td_outside.proofs.sockets.is_on.Goals as goal

pub returns-in-Both : goal.returns-in-Both
returns-in-Both c = rw (c.in-Both.is, c.eq.ensures) (on_both c.in-Both.on c.args.primary c.args.secondary)
