-- The laws of this crate, each under the name of its call: crates above cite them from here.
pub use Rattle.theory_first_packets.proofs.schedule.PairStart.{each_next as next_packet_arrives_along}
pub use Rattle.theory_first_packets.proofs.Strangers.{each_first as first_packet_arrives_along, each_course as takes_a_course_along, strangers_may as strangers_may_meet}
pub use Rattle.theory_first_packets.proofs.Throughout.{along as histories_carry_along, histories as histories_carry_first_packets, courses_taken as histories_take_courses, scenarios as scenarios_carry_first_packets}
pub use Rattle.theory_first_packets.proofs.Flat.{next_arrives as next_packet_arrives, first_arrives as first_packet_arrives, takes_course as takes_a_course}
pub use Rattle.theory_first_packets.proofs.Dropped.{full_sender_drops}
pub use Rattle.theory_first_packets.proofs.tables.Unheard.{full_receiver_hears_nothing}
