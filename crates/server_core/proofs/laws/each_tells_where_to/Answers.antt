use Rattle.server_core.proofs.LawProofs.{each_tells_where_to}
use Rattle.server_core.proofs.laws.each_tells_where_to.Goals as goal

pub returns : goal.returns
returns c = each_tells_where_to
