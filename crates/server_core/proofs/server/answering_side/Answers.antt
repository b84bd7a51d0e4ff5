use Rattle.server_core.proofs.Words.{rules}
use Rattle.server_core.proofs.server.answering_side.Goals as goal

pub returns-then-has_cone : goal.returns-then-has_cone
returns-then-has_cone c = search rules
