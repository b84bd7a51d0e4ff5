use Rattle.client_core.proofs.Words.{List, ap, arith, echo_request, fills, has_room, length, message_bytes, replicate, ℕ, ◌∙◌}
use Rattle.client_core.proofs.Lengths.{message_len}
use Rattle.client_core.proofs.tries.test_message.Goals as goal

pub unwrap-requires : goal.unwrap-requires
unwrap-requires c =
    let m = message_bytes c.args.own c.args.peer (echo_request 0 0 c.nonce_bytes.result) in
    has_room m (replicate 16 0) _ c.write.result c.write.ensures.written (omega (
      arith,
      ap (λ (body : List ℕ). length (message_bytes c.args.own c.args.peer (echo_request 0 0 body))) c.nonce_bytes.ensures,
      message_len c.args.own c.args.peer c.args.nonce,
    ))

pub returns : goal.returns
returns c =
    let m = message_bytes c.args.own c.args.peer (echo_request 0 0 c.nonce_bytes.result) in
    let same = ap (λ (body : List ℕ). message_bytes c.args.own c.args.peer (echo_request 0 0 body)) c.nonce_bytes.ensures in
    fills m (replicate 16 0) _ c.write.result c.unwrap.result c.unwrap.ensures c.write.ensures.written (omega (arith, ap (λ (bytes : List ℕ). length bytes) same, message_len c.args.own c.args.peer c.args.nonce)) ∙ same
