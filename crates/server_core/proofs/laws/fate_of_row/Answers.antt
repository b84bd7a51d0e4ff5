use Rattle.server_core.proofs.LawProofs.{fate_of_row}
use Rattle.server_core.proofs.laws.fate_of_row.Goals as goal

pub returns : goal.returns
returns c = fate_of_row
