use Rattle.teredo_addr.proofs.FlagLaws.{flags_tell}
use Rattle.teredo_addr.proofs.laws.flags_tell.Goals as goal

pub returns : goal.returns
returns c = flags_tell
