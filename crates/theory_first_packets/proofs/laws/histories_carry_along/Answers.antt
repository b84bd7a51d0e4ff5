use Rattle.theory_first_packets.proofs.LawProofs.{histories_carry_along}
use Rattle.theory_first_packets.proofs.laws.histories_carry_along.Goals as goal

pub returns : goal.returns
returns c = histories_carry_along
