-- Right checksums verify.
use Rattle.td_ipv4.proofs.Words.{ChecksumsVerify, Udp4Fields, ap, arith, big_bytes, fixed_head, folded, folded_again, halves_sum, halves_sum-append, head_checksum, length, number_summed, other_spelling, pseudo_head, refl, suc, sym, udp_checksum, udp_head, udp_len, zero, ℕ, ◌%◌, ◌++◌, ◌+◌, ◌-◌, ◌<◌, ◌^◌, ◌∙◌, ◌∷◌, ◌≡◌, ◌≤◌}
use Rattle.std.proofs.Common.{length-append}

folded_most : (n : ℕ) → folded n ≤ 65535
folded_most zero = omega arith
folded_most (suc n) = omega arith

-- a sum with its own inverse
inverse_verifies : (n : ℕ) → folded (n + (65535 - folded n)) ≡ 65535
inverse_verifies n =
    let whole : folded n + (65535 - folded n) ≡ 65535 = omega (arith, folded_most n) in
    sym (folded_again n (65535 - folded n)) ∙ ap folded whole

other_verifies : (m n : ℕ) → 65535 - folded n ≡ m → folded (n + other_spelling m) ≡ 65535
other_verifies zero n none =
    let most : folded n ≡ 65535 = omega (arith, folded_most n, none) in
    sym (folded_again n 65535) ∙ ap (λ (k : ℕ). folded (k + 65535)) most
other_verifies (suc m) n some = ap (λ (k : ℕ). folded (n + k)) (sym some) ∙ inverse_verifies n

head_parts : (v : Udp4Fields) (sum : ℕ) → sum < 2 ^ 16 → halves_sum (fixed_head sum v ++ v.options) ≡ halves_sum (fixed_head 0 v ++ v.options) + sum
head_parts v sum fits = omega (arith, number_summed sum fits)

udp_parts : (v : Udp4Fields) (sum : ℕ) → sum < 2 ^ 16 → length v.src.ip.0 ≡ 4 → length v.dst.ip.0 ≡ 4
    → halves_sum (pseudo_head v ++ (udp_head sum v ++ v.body)) ≡ halves_sum (pseudo_head v ++ (udp_head 0 v ++ v.body)) + sum
udp_parts v sum fits src dst =
    let whole : length (pseudo_head v) % 2 ≡ 0 = omega (arith, length-append (v.src.ip.0 ++ v.dst.ip.0) (0 ∷ 17 ∷ big_bytes 2 (udp_len v)), length-append v.src.ip.0 v.dst.ip.0, src, dst) in
    omega (arith, number_summed sum fits, halves_sum-append (pseudo_head v) (udp_head sum v ++ v.body) whole, halves_sum-append (pseudo_head v) (udp_head 0 v ++ v.body) whole)

pub checksums_verify : ChecksumsVerify
unfolding head_checksum udp_checksum
checksums_verify v is =
    let head : ℕ = halves_sum (fixed_head 0 v ++ v.options) in
    let user : ℕ = halves_sum (pseudo_head v ++ (udp_head 0 v ++ v.body)) in
    record {
      head = λ right. ap folded (head_parts v v.head_sum is.head_sum) ∙ ap (λ (n : ℕ). folded (head + n)) right ∙ inverse_verifies head;
      udp = λ right. ap folded (udp_parts v v.udp_sum is.udp_sum is.src.0.0 is.dst.0.0) ∙ ap (λ (n : ℕ). folded (user + n)) right ∙ other_verifies (65535 - folded user) user refl;
    }
