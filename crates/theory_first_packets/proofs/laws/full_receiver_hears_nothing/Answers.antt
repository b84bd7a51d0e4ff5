use Rattle.theory_first_packets.proofs.LawProofs.{full_receiver_hears_nothing}
use Rattle.theory_first_packets.proofs.laws.full_receiver_hears_nothing.Goals as goal

pub returns : goal.returns
returns c = full_receiver_hears_nothing
