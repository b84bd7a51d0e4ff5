-- With room at both clients it is a first packet.
use Rattle.full_tables.proofs.Words.{IsFirstWithRoom}

pub first_with_room : IsFirstWithRoom
first_with_room t first room room_too = record {
  clients = record {
    sender = first.sender;
    receiver = first.receiver;
    apart = first.apart;
    sender_settled = first.sender_settled;
    receiver_settled = first.receiver_settled;
    sender_new = record { unlisted = first.sender_unlisted; room = room };
    receiver_new = record { unlisted = first.receiver_unlisted; room = room_too };
  };
  handed = first.handed;
}
