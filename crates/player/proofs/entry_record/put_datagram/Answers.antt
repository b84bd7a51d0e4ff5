use Rattle.player.proofs.Words.{arith}
use Rattle.player.proofs.entry_record.put_datagram.Goals as goal

pub unreachable-requires : goal.unreachable-requires
unreachable-requires c =
    let is = c.made_is_udp4.ensures c.args.src c.args.dst c.args.body.now c.is_made.ensures c.is_made-2.ensures c.requires in
    let long = is.long in
    let room = c.in-Err.ensures.written in
    absurd (omega (arith, long, room.1, c.requires))
