use Rattle.lab_nodes.proofs.Words.{[], arith, echo_request, fills, has_room, message_bytes, replicate}
use Rattle.lab_nodes.proofs.Lengths.{echo_len}
use Rattle.lab_nodes.proofs.host.echo_message.Goals as goal

pub unwrap-requires : goal.unwrap-requires
unwrap-requires c =
    let m = message_bytes c.args.src c.args.dst (echo_request 1 c.args.seq []) in
    has_room m (replicate 8 0) _ c.write.result c.write.ensures.written (omega (arith, echo_len c.args.src c.args.dst 1 c.args.seq))

pub returns : goal.returns
returns c =
    let m = message_bytes c.args.src c.args.dst (echo_request 1 c.args.seq []) in
    fills m (replicate 8 0) _ c.write.result c.unwrap.result c.unwrap.ensures c.write.ensures.written (omega (arith, echo_len c.args.src c.args.dst 1 c.args.seq))
