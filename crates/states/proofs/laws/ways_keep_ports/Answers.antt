use Rattle.states.proofs.LawProofs.{ways_keep_ports}
use Rattle.states.proofs.laws.ways_keep_ports.Goals as goal

pub returns : goal.returns
returns c = ways_keep_ports
