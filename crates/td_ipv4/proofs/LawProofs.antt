-- Datagrams as lists of bytes.
pub use Rattle.td_ipv4.proofs.SumLaws.{checksums_verify}
use Rattle.td_ipv4.proofs.Words.{AreBytes, DATAGRAM_MAX, Ep, IsBytes, IsBytes-append, IsEp, IsUdp4, List, MadeIsUdp4, Udp4Fields, Udp4IsBytes, Udp4IsSpelled, Udp4ReadsBack, [], arith, byte_first, fixed_head, head_checksum, internet_checksum, length, made_bytes, made_udp4, no_bytes, number_first, other_spelling, plain_udp4, pseudo_head, refl, suc, total_len, udp4_bytes, udp_checksum, udp_head, zero, ℕ, ◌*◌, ◌++◌, ◌+◌, ◌/◌, ◌<◌, ◌^◌, ◌∙◌, ◌≡◌, ◌≤◌}
use Rattle.td_ipv4.proofs.FoundLaws.{udp4_found}
use Rattle.td_ipv4.proofs.AgainLaws.{udp4_len, udp4_again}

pub udp4_reads_back : Udp4ReadsBack
udp4_reads_back = udp4_again

pub udp4_is_spelled : Udp4IsSpelled
udp4_is_spelled v x fits read = udp4_found x v fits read

bytes : (v : Udp4Fields) → IsUdp4 v → IsBytes v.options → IsBytes v.body → IsBytes (udp4_bytes v)
unfolding udp4_bytes
bytes v is options body =
    let first : 4 * 2 ^ 4 + (20 + length v.options) / 4 < 256 = omega (arith, is.options) in
    let addresses : AreBytes (v.src.ip.0 ++ v.dst.ip.0) = record { each = IsBytes-append v.src.ip.0 v.dst.ip.0 is.src.0.1 is.dst.0.1 } in
    let head : AreBytes (fixed_head v.head_sum v) =
    byte_first _ first (byte_first v.tos is.tos (number_first 2 (total_len v) (number_first 2 v.id (number_first 2 v.frag (byte_first v.ttl is.ttl (byte_first 17 (omega arith) (number_first 2 v.head_sum addresses))))))) in
    let user : AreBytes (udp_head v.udp_sum v) = number_first 2 v.src.port (number_first 2 v.dst.port (number_first 2 (8 + length v.body) (number_first 2 v.udp_sum no_bytes))) in
    IsBytes-append (fixed_head v.head_sum v ++ v.options) (udp_head v.udp_sum v ++ v.body) (IsBytes-append (fixed_head v.head_sum v) v.options head.each options) (IsBytes-append (udp_head v.udp_sum v) v.body user.each body)

pub udp4_is_bytes : Udp4IsBytes
udp4_is_bytes v is = record { long = udp4_len v is.src.0.0 is.dst.0.0; bytes = bytes v is }

-- ---- what is made

checksum_fits : (x : List ℕ) → internet_checksum x < 2 ^ 16
checksum_fits x = omega arith

other_fits : (n : ℕ) → n < 2 ^ 16 → other_spelling n < 2 ^ 16
other_fits zero fits = omega arith
other_fits (suc n) fits = fits

made_fits : (src dst : Ep) (body : List ℕ) → IsEp src → IsEp dst → length body ≤ DATAGRAM_MAX → IsUdp4 (made_udp4 src dst body)
unfolding made_udp4 head_checksum udp_checksum
made_fits src dst body src_is dst_is most = record {
  tos = omega arith;
  id = omega arith;
  frag = omega arith;
  whole = refl;
  ttl = omega arith;
  head_sum = checksum_fits (fixed_head 0 (plain_udp4 src dst body) ++ []);
  words = refl;
  options = omega arith;
  src = src_is;
  dst = dst_is;
  udp_sum = other_fits _ (checksum_fits (pseudo_head (plain_udp4 src dst body) ++ (udp_head 0 (plain_udp4 src dst body) ++ body)));
  total = omega (arith, most);
}

made_head_sum : (src dst : Ep) (body : List ℕ) → (made_udp4 src dst body).head_sum ≡ head_checksum (made_udp4 src dst body)
unfolding made_udp4 head_checksum
made_head_sum src dst body = refl

made_udp_sum : (src dst : Ep) (body : List ℕ) → (made_udp4 src dst body).udp_sum ≡ udp_checksum (made_udp4 src dst body)
unfolding made_udp4 udp_checksum
made_udp_sum src dst body = refl

made_len : (src dst : Ep) (body : List ℕ) → IsUdp4 (made_udp4 src dst body) → length (made_bytes src dst body) ≡ 28 + length body
unfolding made_bytes made_udp4
made_len src dst body is = udp4_len (made_udp4 src dst body) is.src.0.0 is.dst.0.0 ∙ omega arith

made_are_bytes : (src dst : Ep) (body : List ℕ) → IsUdp4 (made_udp4 src dst body) → IsBytes body → IsBytes (made_bytes src dst body)
unfolding made_bytes made_udp4
made_are_bytes src dst body is fits = bytes (made_udp4 src dst body) is no_bytes.each fits

pub made_is_udp4 : MadeIsUdp4
made_is_udp4 src dst body src_is dst_is most =
    let is = made_fits src dst body src_is dst_is most in
    record { fits = is; long = made_len src dst body is; bytes = made_are_bytes src dst body is; head_sum = made_head_sum src dst body; udp_sum = made_udp_sum src dst body }
