use Rattle.theory_reaching.proofs.LawProofs.{barred_sender_is_silent}
use Rattle.theory_reaching.proofs.unreached.barred_sender_is_silent.Goals as goal

pub returns : goal.returns
returns c = barred_sender_is_silent
