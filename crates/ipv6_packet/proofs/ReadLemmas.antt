-- The fields that were read.
use Rattle.ipv6_packet.proofs.Words.{Fields, Ip6, List, and_mask, ap, bit_and, drop, fields_of, get_or, number_at, take, ℕ, ◌%◌, ◌/◌, ◌^◌, ◌∙◌, ◌≡◌}

pub fields_are : (x : List ℕ) (word : ℕ) (src dst : Ip6) (body : List ℕ) → word ≡ number_at 0 4 x → body ≡ drop 40 x → src.0 ≡ take 16 (drop 8 x) → dst.0 ≡ take 16 (drop 24 x)
    → (let v : Fields = record { class = bit_and (word / 1048576) 255; flow = bit_and word 1048575; next = get_or x 6 0; hop = get_or x 7 0; src = src; dst = dst; body = body } in v) ≡ fields_of x
unfolding fields_of
fields_are x word src dst body word_is body_is src_is dst_is =
    let class_is : bit_and (word / 2 ^ 20) 255 ≡ number_at 0 4 x / 2 ^ 20 % 2 ^ 8 = and_mask (word / 2 ^ 20) 8 ∙ ap (λ (w : ℕ). w / 2 ^ 20 % 2 ^ 8) word_is in
    let flow_is : bit_and word 1048575 ≡ number_at 0 4 x % 2 ^ 20 = and_mask word 20 ∙ ap (λ (w : ℕ). w % 2 ^ 20) word_is in
    let source : src ≡ record { 0 = take 16 (drop 8 x) } = ap (λ (l : List ℕ). let ip : Ip6 = record { 0 = l } in ip) src_is in
    let destination : dst ≡ record { 0 = take 16 (drop 24 x) } = ap (λ (l : List ℕ). let ip : Ip6 = record { 0 = l } in ip) dst_is in
    cc
