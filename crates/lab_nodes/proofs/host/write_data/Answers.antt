use Rattle.lab_nodes.proofs.Words.{arith, data_packet, has_room, packet_bytes, packet_len}
use Rattle.lab_nodes.proofs.host.write_data.Goals as goal

pub unwrap-requires : goal.unwrap-requires
unwrap-requires c =
    let p = data_packet c.args.src c.args.dst c.args.body.now in
    has_room (packet_bytes p) c.args.out.now _ c.write.result c.write.ensures.written (omega (arith, packet_len p (omega arith) (omega arith)))
