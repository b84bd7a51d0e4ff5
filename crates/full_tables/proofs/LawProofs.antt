-- The laws of this crate, each under the name of its call: crates above cite them from here.
use Rattle.full_tables.proofs.Words.{FullReceiverFails, FullSenderFails}
use Rattle.full_tables.proofs.ManyListed.{many_listed, many_are}
use Rattle.full_tables.proofs.SenderFull.{sender_fails}
use Rattle.full_tables.proofs.ReceiverFull.{receiver_fails}
pub use Rattle.full_tables.proofs.WithRoom.{first_with_room}

pub full_sender_fails : FullSenderFails
full_sender_fails = sender_fails many_listed many_are

pub full_receiver_fails : FullReceiverFails
full_receiver_fails = receiver_fails many_listed many_are
