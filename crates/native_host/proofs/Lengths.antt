-- How long what is written is.
use Rattle.native_host.proofs.Words.{Ip6, List, arith, echo_reply, length, message_bytes, ℕ, ◌+◌, ◌≡◌}

-- the message of an echo reply
pub reply_len : (src dst : Ip6) (id seq : ℕ) (body : List ℕ) → length (message_bytes src dst (echo_reply id seq body)) ≡ 8 + length body
unfolding message_bytes
reply_len src dst id seq body = omega arith
