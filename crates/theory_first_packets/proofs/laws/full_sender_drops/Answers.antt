use Rattle.theory_first_packets.proofs.LawProofs.{full_sender_drops}
use Rattle.theory_first_packets.proofs.laws.full_sender_drops.Goals as goal

pub returns : goal.returns
returns c = full_sender_drops
