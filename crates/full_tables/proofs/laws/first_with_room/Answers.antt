use Rattle.full_tables.proofs.LawProofs.{first_with_room}
use Rattle.full_tables.proofs.laws.first_with_room.Goals as goal

pub returns : goal.returns
returns c = first_with_room
