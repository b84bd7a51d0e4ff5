-- How long what is written is.
use Rattle.server_core.proofs.Words.{Ep, Fields, List, None, Option, Some, arith, drop, false, indications_bytes, indications_len, is_big, length, length-append, length-drop, ltb-false, nonce_len, origin_bytes_len, packet_bytes, packet_len, payload_bytes, take, take_rest, ℕ, ◌+◌, ◌-◌, ◌∙◌, ◌≡◌, ◌≤◌}

pub indications_bytes_len : (nonce : Option ℕ) (ep : Ep) → length ep.ip.0 ≡ 4 → length (indications_bytes nonce (Some ep)) ≡ indications_len nonce (Some ep)
indications_bytes_len None ep four = origin_bytes_len ep four
indications_bytes_len (Some nonce) ep four = omega (arith, origin_bytes_len ep four)

pub payload_bytes_len : (nonce : Option ℕ) (ep : Ep) (p : Fields) → length ep.ip.0 ≡ 4 → length p.src.0 ≡ 16 → length p.dst.0 ≡ 16
    → length (payload_bytes nonce (Some ep) p) ≡ indications_len nonce (Some ep) + 40 + length p.body
payload_bytes_len nonce ep p four src dst =
    length-append (indications_bytes nonce (Some ep)) (packet_bytes p) ∙ omega (arith, indications_bytes_len nonce ep four, packet_len p src dst)

pub nonce_len_most : (nonce : Option ℕ) → nonce_len nonce ≤ 13
nonce_len_most None = omega arith
nonce_len_most (Some nonce) = omega arith

-- a packet that isn't big
pub packet_is_small : (p : Fields) → is_big p ≡ false → 40 + length p.body ≤ 1280
unfolding is_big
packet_is_small p h = ltb-false _ _ h

-- the rest of a datagram is a packet that isn't big
pub small_rest : (p : Fields) (x : List ℕ) (at : ℕ) → is_big p ≡ false → at + 40 + length p.body ≡ length x → length (take (length x - at) (drop at x)) ≤ 1280
small_rest p x at big inside =
    let short = packet_is_small p big in
    let small : length (drop at x) ≤ 1280 = omega (arith, length-drop at x, inside, short) in
    rw (take_rest x at) small

-- and no longer than the datagram
pub rest_within : (x : List ℕ) (at : ℕ) → length (take (length x - at) (drop at x)) ≤ length x
rest_within x at =
    let within : length (drop at x) ≤ length x = omega (arith, length-drop at x) in
    rw (take_rest x at) within
