use Rattle.native_host.proofs.Words.{Fields, Ip6, List, ap, arith, echo_reply, has_room, length, message_bytes, packet_bytes, packet_len, replicate, stands_in_front, take, ℕ}
use Rattle.native_host.proofs.Lengths.{reply_len}
use Rattle.native_host.proofs.incoming.write_reply.Goals as goal

abbrev packet_of : Ip6 → Ip6 → List ℕ → Fields
packet_of src dst body = record { class = 0; flow = 0; next = 58; hop = 64; src = src; dst = dst; body = body }

pub unwrap-len-requires : goal.unwrap-len-requires
unwrap-len-requires c =
    let m = message_bytes c.args.src c.args.dst (echo_reply c.args.id c.args.seq c.args.body.now) in
    has_room m (replicate 1360 0) _ c.write.result c.write.ensures.written (omega (arith, reply_len c.args.src c.args.dst c.args.id c.args.seq c.args.body.now))

pub unwrap-requires : goal.unwrap-requires
unwrap-requires c =
    let m = message_bytes c.args.src c.args.dst (echo_reply c.args.id c.args.seq c.args.body.now) in
    let front = (stands_in_front m (replicate 1360 0) _ c.write.result c.unwrap-len.result c.unwrap-len.ensures c.write.ensures.written).1 in
    let p = packet_of c.args.src c.args.dst (take c.unwrap-len.result c.write.new.out) in
    has_room (packet_bytes p) _ _ c.write-2.result c.write-2.ensures.written
    (omega (arith, packet_len p (omega arith) (omega arith), ap (λ (x : List ℕ). length x) front, reply_len c.args.src c.args.dst c.args.id c.args.seq c.args.body.now))

pub returns-clause-len : goal.returns-clause-len
returns-clause-len c =
    let m = message_bytes c.args.src c.args.dst (echo_reply c.args.id c.args.seq c.args.body.now) in
    let front = (stands_in_front m (replicate 1360 0) _ c.write.result c.unwrap-len.result c.unwrap-len.ensures c.write.ensures.written).1 in
    let p = packet_of c.args.src c.args.dst (take c.unwrap-len.result c.write.new.out) in
    let is = (stands_in_front (packet_bytes p) _ _ c.write-2.result c.unwrap.result c.unwrap.ensures c.write-2.ensures.written).0 in
    omega (arith, is, packet_len p (omega arith) (omega arith), ap (λ (x : List ℕ). length x) front, reply_len c.args.src c.args.dst c.args.id c.args.seq c.args.body.now)
