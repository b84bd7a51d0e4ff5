-- The laws of this crate, each under the name of its call: crates above cite them from here.
use Rattle.theory_first_natives.proofs.Words.{NewMayMeetThroughRelay, unlisted}
use Rattle.theory_first_natives.proofs.NewToEachOther as new_to_each_other
pub use Rattle.theory_first_natives.proofs.from_native.TrioStart.{each_next as next_from_native_arrives}
pub use Rattle.theory_first_natives.proofs.NewToEachOther.{each_first as first_from_native_arrives}
pub use Rattle.theory_first_natives.proofs.Throughout.{histories as histories_carry_from_natives, histories_to as histories_carry_to_natives}
pub use Rattle.theory_first_natives.proofs.to_native.ToStart.{each_next as next_to_native_arrives}
pub use Rattle.theory_first_natives.proofs.to_native.ToNew.{each_first as first_to_native_arrives}

pub new_may_meet_through_relay : NewMayMeetThroughRelay
new_may_meet_through_relay = new_to_each_other.may_meet
