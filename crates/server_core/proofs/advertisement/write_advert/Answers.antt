use Rattle.server_core.proofs.Words.{Fields, Ip6, List, Some, arith, has_room, payload_bytes, stands_in_front, ℕ}
use Rattle.server_core.proofs.Lengths.{payload_bytes_len, nonce_len_most}
use Rattle.server_core.proofs.advertisement.write_advert.Goals as goal

abbrev packet_of : Ip6 → Ip6 → List ℕ → Fields
packet_of src dst body = record { class = 0; flow = 0; next = 58; hop = 255; src = src; dst = dst; body = body }

pub unwrap-requires : goal.unwrap-requires
unwrap-requires c =
    let p = packet_of c.own_address-server.result c.args.client c.advertisement.result in
    let long = payload_bytes_len c.args.nonce c.args.from p (omega arith) (omega arith) (omega arith) in
    has_room (payload_bytes c.args.nonce (Some c.args.from) p) _ _ c.write.result c.write.ensures.written (omega (arith, long, nonce_len_most c.args.nonce))

pub returns-clause-len : goal.returns-clause-len
returns-clause-len c =
    let p = packet_of c.own_address-server.result c.args.client c.advertisement.result in
    let long = payload_bytes_len c.args.nonce c.args.from p (omega arith) (omega arith) (omega arith) in
    let is = (stands_in_front (payload_bytes c.args.nonce (Some c.args.from) p) _ _ c.write.result c.unwrap.result c.unwrap.ensures c.write.ensures.written).0 in
    omega (arith, long, is)
