use Rattle.peer_list.proofs.Words.{arith}
use Rattle.peer_list.proofs.KeyLemmas.{room_for}
use Rattle.peer_list.proofs.entries.Entries.settle.Goals as goal

pub settle-requires-clause-room : goal.settle-requires-clause-room
settle-requires-clause-room c none =
    let e = c.args.self.now in
    let room = room_for e c.args.key c.args.before c.requires.but none in
    let long = e.order.ok.0 in
    omega (arith, room, long)
