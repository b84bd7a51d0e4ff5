-- How long what is written is.
use Rattle.client_core.proofs.Words.{Ip6, arith, big_bytes, echo_request, length, message_bytes, ℕ, ◌≡◌}

-- a test's message
pub message_len : (src dst : Ip6) (nonce : ℕ) → length (message_bytes src dst (echo_request 0 0 (big_bytes 8 nonce))) ≡ 16
unfolding message_bytes
message_len src dst nonce = omega arith
