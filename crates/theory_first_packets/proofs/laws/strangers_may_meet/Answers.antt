use Rattle.theory_first_packets.proofs.LawProofs.{strangers_may_meet}
use Rattle.theory_first_packets.proofs.laws.strangers_may_meet.Goals as goal

pub returns : goal.returns
returns c = strangers_may_meet
