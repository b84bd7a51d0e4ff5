use Rattle.theory_loads.proofs.LawProofs.{carries_packets}
use Rattle.theory_loads.proofs.laws.carries_packets.Goals as goal

pub returns : goal.returns
returns c = carries_packets
