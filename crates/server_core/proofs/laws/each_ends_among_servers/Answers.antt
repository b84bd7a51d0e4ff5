use Rattle.server_core.proofs.LawProofs.{each_ends_among_servers}
use Rattle.server_core.proofs.laws.each_ends_among_servers.Goals as goal

pub returns : goal.returns
returns c = each_ends_among_servers
