use Rattle.qualify.proofs.Words.{Fields, Ip6, List, None, Some, [], all_routers, ap, arith, fills, has_room, message_bytes, payload_bytes, replicate, router_solicit, solicitation, ℕ, ◌∙◌}
use Rattle.qualify.proofs.Lengths.{payload_len}
use Rattle.qualify.proofs.solicitation.solicitation.Goals as goal

abbrev packet_of : Ip6 → List ℕ → Fields
packet_of src body = record { class = 0; flow = 0; next = 58; hop = 255; src = src; dst = all_routers; body = body }

pub unwrap-requires : goal.unwrap-requires
unwrap-requires c =
    let p = packet_of c.link_local-source.result c.message.result in
    has_room (payload_bytes (Some c.args.nonce) None p) (replicate 61 0) _ c.write.result c.write.ensures.written (omega (arith, payload_len c.args.nonce p (omega arith) (omega arith)))

pub returns : goal.returns
unfolding solicitation
returns c =
    let p = packet_of c.link_local-source.result c.message.result in
    fills (payload_bytes (Some c.args.nonce) None p) (replicate 61 0) _ c.write.result c.unwrap.result c.unwrap.ensures c.write.ensures.written (omega (arith, payload_len c.args.nonce p (omega arith) (omega arith)))
    ∙ ap (λ (body : List ℕ). payload_bytes (Some c.args.nonce) None (packet_of c.link_local-source.result body)) c.message.ensures
    ∙ ap (λ (src : Ip6). payload_bytes (Some c.args.nonce) None (packet_of src (message_bytes src all_routers (router_solicit [])))) c.link_local-source.ensures
