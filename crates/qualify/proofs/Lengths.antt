-- How long what is written is.
use Rattle.qualify.proofs.Words.{Fields, Ip6, None, Some, [], arith, indications_bytes, length, length-append, message_bytes, packet_bytes, packet_len, payload_bytes, router_solicit, ℕ, ◌+◌, ◌∙◌, ◌≡◌}

-- a solicitation without options
pub solicit_len : (src dst : Ip6) → length (message_bytes src dst (router_solicit [])) ≡ 8
unfolding message_bytes
solicit_len src dst = omega arith

-- a packet behind a nonce
pub payload_len : (nonce : ℕ) (p : Fields) → length p.src.0 ≡ 16 → length p.dst.0 ≡ 16 → length (payload_bytes (Some nonce) None p) ≡ 53 + length p.body
payload_len nonce p src dst = length-append (indications_bytes (Some nonce) None) (packet_bytes p) ∙ omega (arith, packet_len p src dst)
