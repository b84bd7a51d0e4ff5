use Rattle.lab_nodes.proofs.Words.{Fields, Ip6, List, ap, arith, fills, has_room, packet_bytes, packet_len, replicate, ℕ, ◌∙◌}
use Rattle.lab_nodes.proofs.host.echo.Goals as goal

abbrev packet_of : Ip6 → Ip6 → List ℕ → Fields
packet_of src dst body = record { class = 0; flow = 0; next = 58; hop = 64; src = src; dst = dst; body = body }

pub unwrap-requires : goal.unwrap-requires
unwrap-requires c =
    let p = packet_of c.args.src c.args.dst c.echo_message.result in
    has_room (packet_bytes p) (replicate 48 0) _ c.write.result c.write.ensures.written (omega (arith, packet_len p (omega arith) (omega arith)))

pub returns : goal.returns
returns c =
    let p = packet_of c.args.src c.args.dst c.echo_message.result in
    fills (packet_bytes p) (replicate 48 0) _ c.write.result c.unwrap.result c.unwrap.ensures c.write.ensures.written (omega (arith, packet_len p (omega arith) (omega arith)))
    ∙ ap (λ (body : List ℕ). packet_bytes (packet_of c.args.src c.args.dst body)) c.echo_message.ensures
