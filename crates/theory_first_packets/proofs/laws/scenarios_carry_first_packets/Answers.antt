use Rattle.theory_first_packets.proofs.LawProofs.{scenarios_carry_first_packets}
use Rattle.theory_first_packets.proofs.laws.scenarios_carry_first_packets.Goals as goal

pub returns : goal.returns
returns c = scenarios_carry_first_packets
