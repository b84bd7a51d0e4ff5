use Rattle.theory_first_natives.proofs.LawProofs.{new_may_meet_through_relay}
use Rattle.theory_first_natives.proofs.laws.new_may_meet_through_relay.Goals as goal

pub returns : goal.returns
returns c = new_may_meet_through_relay
