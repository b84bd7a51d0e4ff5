-- What is spelled so is read.
use Rattle.td_ipv4.proofs.Words.{IsOfUdp, IsUdp4, List, Ok, Udp4Fields, ap, append_assoc, arith, big_bytes, big_number, big_number-reads_back, bit_and, drop, drop-drop, drop_at, fixed_head, head_len, head_tests, length, number_at, refl, slice_index, sym, take, take_at, total_len, udp4_at, udp4_bytes, udp4_fields, udp_fault, udp_head, udp_len, udp_place, udp_tests, ℕ, ◌*◌, ◌++◌, ◌+◌, ◌-◌, ◌/◌, ◌<◌, ◌>>=◌, ◌^◌, ◌∙◌, ◌≡◌}
use Rattle.std.proofs.lemmas.List.{length-append}
use Rattle.td_ipv4.proofs.TestLaws.{HasUdp, passed, head_passes, udp_passes}

-- without a fault the fields are read
no_fault : (x : List ℕ) → IsOfUdp x → HasUdp (head_len x) x → udp4_at x ≡ Ok (udp4_fields (head_len x) x)
unfolding udp_place udp_fault udp4_at
no_fault x is udp =
    let place : ℕ = head_len x in
    let at : udp_place x ≡ Ok place = passed (head_tests x) place (head_passes x is) in
    let fine : udp_fault place x ≡ Ok tt = passed (udp_tests place x) tt (udp_passes place x udp) in
    ap (λ r. r >>= λ p. udp_fault p x >>= λ _. Ok (udp4_fields p x)) at ∙ ap (λ r. r >>= λ _. Ok (udp4_fields place x)) fine

-- the header and what follows it
parts : (v : Udp4Fields) → udp4_bytes v ≡ fixed_head v.head_sum v ++ (v.options ++ (udp_head v.udp_sum v ++ v.body))
unfolding udp4_bytes
parts v = append_assoc (fixed_head v.head_sum v) v.options (udp_head v.udp_sum v ++ v.body)

head_size : (v : Udp4Fields) → length v.src.ip.0 ≡ 4 → length v.dst.ip.0 ≡ 4 → length (fixed_head v.head_sum v) ≡ 20
head_size v src dst = omega (arith, length-append v.src.ip.0 v.dst.ip.0, src, dst)

pub udp4_len : (v : Udp4Fields) → length v.src.ip.0 ≡ 4 → length v.dst.ip.0 ≡ 4 → length (udp4_bytes v) ≡ total_len v
udp4_len v src dst =
    ap length (parts v) ∙ omega (arith, length-append (fixed_head v.head_sum v) (v.options ++ (udp_head v.udp_sum v ++ v.body)), length-append v.options (udp_head v.udp_sum v ++ v.body), head_size v src dst)

-- a number of two bytes that stands at a place
number_in : (place n : ℕ) (x rest : List ℕ) {tail : List ℕ} → n < 2 ^ 16 → drop place x ≡ rest → rest ≡ big_bytes 2 n ++ tail → number_at place 2 x ≡ n
number_in place n x rest {tail} fits behind begins = ap (big_number 2) (behind ∙ begins) ∙ big_number-reads_back 2 n tail fits

-- the parts of the header before its options
addresses : (v : Udp4Fields) (rest : List ℕ) → IsUdp4 v → (take 4 ((v.src.ip.0 ++ v.dst.ip.0) ++ rest) ≡ v.src.ip.0) × (take 4 (drop 4 ((v.src.ip.0 ++ v.dst.ip.0) ++ rest)) ≡ v.dst.ip.0)
addresses v rest is =
    let turned = append_assoc v.src.ip.0 v.dst.ip.0 rest in
    (ap (take 4) turned ∙ take_at v.src.ip.0 (v.dst.ip.0 ++ rest) 4 is.src.0.0, ap (λ (t : List ℕ). take 4 (drop 4 t)) turned ∙ ap (take 4) (drop_at v.src.ip.0 (v.dst.ip.0 ++ rest) 4 is.src.0.0) ∙ take_at v.dst.ip.0 rest 4 is.dst.0.0)

-- where UDP's header begins
user_at : (v : Udp4Fields) (place : ℕ) → IsUdp4 v → place ≡ 20 + length v.options → drop place (udp4_bytes v) ≡ udp_head v.udp_sum v ++ v.body
unfolding udp4_bytes
user_at v place is place_is =
    drop_at (fixed_head v.head_sum v ++ v.options) (udp_head v.udp_sum v ++ v.body) place (length-append (fixed_head v.head_sum v) v.options ∙ omega (arith, head_size v is.src.0.0 is.dst.0.0, place_is))

pub udp4_again : (v : Udp4Fields) → IsUdp4 v → udp4_at (udp4_bytes v) ≡ Ok v
unfolding udp4_fields
udp4_again v is =
    let x : List ℕ = udp4_bytes v in
    let user : List ℕ = udp_head v.udp_sum v ++ v.body in
    let rest : List ℕ = v.options ++ user in
    let shape : x ≡ fixed_head v.head_sum v ++ rest = parts v in
    let len : length x ≡ total_len v = udp4_len v is.src.0.0 is.dst.0.0 in
    let place : ℕ = head_len x in
    let first : slice_index x 0 ≡ 4 * 2 ^ 4 + (20 + length v.options) / 4 = ap (λ (t : List ℕ). slice_index t 0) shape in
    let place_is : place ≡ 20 + length v.options = omega (arith, first, is.words, is.options) in
    let fixed : (p : ℕ) → drop p x ≡ drop p (fixed_head v.head_sum v ++ rest) = λ p. ap (drop p) shape in
    let total : number_at 2 2 x ≡ total_len v = number_in 2 (total_len v) x _ (omega (arith, is.total)) (fixed 2) refl in
    let id : number_at 4 2 x ≡ v.id = number_in 4 v.id x _ is.id (fixed 4) refl in
    let frag : number_at 6 2 x ≡ v.frag = number_in 6 v.frag x _ is.frag (fixed 6) refl in
    let head_sum : number_at 10 2 x ≡ v.head_sum = number_in 10 v.head_sum x _ is.head_sum (fixed 10) refl in
    let tos : slice_index x 1 ≡ v.tos = ap (λ (t : List ℕ). slice_index t 1) shape in
    let ttl : slice_index x 8 ≡ v.ttl = ap (λ (t : List ℕ). slice_index t 8) shape in
    let protocol : slice_index x 9 ≡ 17 = ap (λ (t : List ℕ). slice_index t 9) shape in
    let src : take 4 (drop 12 x) ≡ v.src.ip.0 = ap (take 4) (fixed 12) ∙ (addresses v rest is).0 in
    let dst : take 4 (drop 16 x) ≡ v.dst.ip.0 = ap (take 4) (fixed 16) ∙ (addresses v rest is).1 in
    let behind : drop 20 x ≡ rest = fixed 20 ∙ drop_at (fixed_head v.head_sum v) rest 20 (head_size v is.src.0.0 is.dst.0.0) in
    let options : take (place - 20) (drop 20 x) ≡ v.options = ap (take (place - 20)) behind ∙ take_at v.options user (place - 20) (omega (arith, place_is)) in
    let user_is : drop place x ≡ user = user_at v place is place_is in
    let later : (k : ℕ) → drop (place + k) x ≡ drop k user = λ k. sym (drop-drop k place x) ∙ ap (drop k) user_is in
    let src_port : number_at place 2 x ≡ v.src.port = number_in place v.src.port x _ is.src.1 user_is refl in
    let dst_port : number_at (place + 2) 2 x ≡ v.dst.port = number_in (place + 2) v.dst.port x _ is.dst.1 (later 2) refl in
    let said : number_at (place + 4) 2 x ≡ udp_len v = number_in (place + 4) (udp_len v) x _ (omega (arith, is.total)) (later 4) refl in
    let udp_sum : number_at (place + 6) 2 x ≡ v.udp_sum = number_in (place + 6) v.udp_sum x _ is.udp_sum (later 6) refl in
    let body : drop (place + 8) x ≡ v.body = later 8 in
    let of_udp : IsOfUdp x = record {
      whole = record {
        long = record {
          head = record { ipv4 = record { long = omega (arith, len); version = omega (arith, first, is.options) }; least = omega (arith, place_is); there = omega (arith, place_is, len) };
          total = total ∙ sym len;
        };
        whole = ap (λ (n : ℕ). bit_and n 16383) frag ∙ is.whole;
      };
      udp = protocol;
    } in
    let has : HasUdp place x = record { least = omega (arith, place_is, len); said = said ∙ omega (arith, place_is, len) } in
    no_fault x of_udp has ∙ rw (tos, id, frag, ttl, head_sum, src, dst, options, src_port, dst_port, udp_sum, body) refl
