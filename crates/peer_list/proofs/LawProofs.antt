-- The laws of this crate, each under the name of its call: crates above cite them from here.
pub use Rattle.peer_list.proofs.Bearings.{of_another, of_a_touch, of_no_touch, one_entry, lasts, unlisted, listed_is_known}
pub use Rattle.peer_list.proofs.Lists.{listed_are, listed_once}
pub use Rattle.peer_list.proofs.FewLemmas.{few_listed}
pub use Rattle.peer_list.proofs.Orders.{first_waits, order_is_free}
pub use Rattle.peer_list.proofs.OverdueLemmas.{first_is_earliest, nothing_overdue, first_overdue, less_overdue}
pub use Rattle.peer_list.proofs.TryLemmas.{tries_without_stay}
pub use Rattle.peer_list.proofs.StandsLemmas.{table_is_read, next_stands, idle_stands, kept_stands, calls_of_an_entry}
pub use Rattle.peer_list.proofs.TableLemmas.{update_is_seen, touched_is_listed, found_is_listed, updates_twice, touch_goes_on}
pub use Rattle.peer_list.proofs.HoldLemmas.{hold_goes_on}
