-- How long what a host writes is.
use Rattle.lab_nodes.proofs.Words.{Ip6, [], arith, echo_request, length, message_bytes, ℕ, ◌≡◌}

-- an echo request without data
pub echo_len : (src dst : Ip6) (id seq : ℕ) → length (message_bytes src dst (echo_request id seq [])) ≡ 8
unfolding message_bytes
echo_len src dst id seq = omega arith
