-- The checksum of UDP, summed in steps.
use Rattle.td_ipv4.proofs.Words.{List, UDP, Udp4Fields, ap, append_assoc, arith, big_bytes, halves_sum, halves_sum-append, number_summed, pseudo_head, refl, sym, udp_head, udp_len, ℕ, ◌++◌, ◌+◌, ◌<◌, ◌^◌, ◌∙◌, ◌∷◌, ◌≡◌}

-- what stands between the addresses and the body
abbrev pub between : Udp4Fields → List ℕ
between v = (0 ∷ UDP ∷ big_bytes 2 (udp_len v)) ++ udp_head 0 v

pub regrouped : (v : Udp4Fields) → ((v.src.ip.0 ++ v.dst.ip.0) ++ between v) ++ v.body ≡ pseudo_head v ++ (udp_head 0 v ++ v.body)
regrouped v =
    ap (λ (t : List ℕ). t ++ v.body) (sym (append_assoc (v.src.ip.0 ++ v.dst.ip.0) (0 ∷ UDP ∷ big_bytes 2 (udp_len v)) (udp_head 0 v))) ∙ append_assoc (pseudo_head v) (udp_head 0 v) v.body

four : (a b c d : ℕ) → a < 2 ^ 16 → b < 2 ^ 16 → c < 2 ^ 16 → d < 2 ^ 16 → halves_sum (big_bytes 2 a ++ (big_bytes 2 b ++ (big_bytes 2 c ++ big_bytes 2 d))) ≡ a + b + c + d
four a b c d ha hb hc hd =
    omega (
      arith,
      number_summed a ha,
      number_summed b hb,
      number_summed c hc,
      number_summed d hd,
      halves_sum-append (big_bytes 2 a) (big_bytes 2 b ++ (big_bytes 2 c ++ big_bytes 2 d)) refl,
      halves_sum-append (big_bytes 2 b) (big_bytes 2 c ++ big_bytes 2 d) refl,
      halves_sum-append (big_bytes 2 c) (big_bytes 2 d) refl,
    )

pub between_sum : (v : Udp4Fields) → udp_len v < 2 ^ 16 → v.src.port < 2 ^ 16 → v.dst.port < 2 ^ 16 → 17 + udp_len v + v.src.port + v.dst.port + udp_len v ≡ halves_sum (between v)
between_sum v len src dst =
    omega (arith, number_summed (udp_len v) len, four v.src.port v.dst.port (udp_len v) 0 src dst len (omega arith), halves_sum-append (0 ∷ UDP ∷ big_bytes 2 (udp_len v)) (udp_head 0 v) refl)
