use Rattle.relay_core.proofs.Words.{rules}
use Rattle.relay_core.proofs.reception_line.line_of.Goals as goal

pub line_of_client-requires : goal.line_of_client-requires
line_of_client-requires c = search rules
