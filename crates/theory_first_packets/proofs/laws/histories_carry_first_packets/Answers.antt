use Rattle.theory_first_packets.proofs.LawProofs.{histories_carry_first_packets}
use Rattle.theory_first_packets.proofs.laws.histories_carry_first_packets.Goals as goal

pub returns : goal.returns
returns c = histories_carry_first_packets
