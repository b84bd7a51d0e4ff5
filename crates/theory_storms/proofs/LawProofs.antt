-- The laws of this crate, each under the name of its call: crates above cite them from here.
use Rattle.theory_storms.proofs.Words.{EachServedIsWeighed}
use Rattle.theory_storms.proofs.Weighed as weighed
pub use Rattle.theory_storms.proofs.Weighed.{each_is_weighed, burden_is_bounded}
pub use Rattle.theory_storms.proofs.FewWait.{few_wait}
pub use Rattle.theory_storms.proofs.Exchanged.{exchanges as delivery_exchanges}
pub use Rattle.theory_storms.proofs.Reached.{trust_lasts}
pub use Rattle.theory_storms.proofs.Eases.{each_eases, each_lightens, no_more_than_before}
pub use Rattle.theory_storms.proofs.Ending.{storms_end as deliveries_end, settling_ends, histories as histories_have_no_storm, scenarios as scenarios_have_no_storm, few_follow}
pub use Rattle.theory_storms.proofs.Settles.{settle_delivers_new}
pub use Rattle.theory_storms.proofs.LessLeft.{falls}
pub use Rattle.theory_storms.proofs.ByKind.{few_by_kind}
pub use Rattle.theory_storms.proofs.Most.{nine_for_each, nine_settle, settle_by_kind, histories as histories_have_nine}
pub use Rattle.theory_storms.proofs.Alone.{one as follow_from_one, nine as nine_follow, four as four_follow}

pub served_is_weighed : EachServedIsWeighed
served_is_weighed = weighed.served_most
