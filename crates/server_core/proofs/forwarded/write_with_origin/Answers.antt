use Rattle.server_core.proofs.Words.{None, Some, arith, has_room, indications_bytes, stands_in_front}
use Rattle.server_core.proofs.Lengths.{indications_bytes_len}
use Rattle.server_core.proofs.forwarded.write_with_origin.Goals as goal

pub unwrap-at-requires : goal.unwrap-at-requires
unwrap-at-requires c =
    let long = indications_bytes_len None c.args.from (omega arith) in
    has_room (indications_bytes None (Some c.args.from)) _ _ c.write.result c.write.ensures.written (omega (arith, long, c.requires.room))

pub put-requires : goal.put-requires
put-requires c =
    let long = indications_bytes_len None c.args.from (omega arith) in
    let is = (stands_in_front (indications_bytes None (Some c.args.from)) _ _ c.write.result c.unwrap-at.result c.unwrap-at.ensures c.write.ensures.written).0 in
    omega (arith, long, is)

pub returns-clause-len : goal.returns-clause-len
returns-clause-len c =
    let long = indications_bytes_len None c.args.from (omega arith) in
    let is = (stands_in_front (indications_bytes None (Some c.args.from)) _ _ c.write.result c.unwrap-at.result c.unwrap-at.ensures c.write.ensures.written).0 in
    omega (arith, long, is)
