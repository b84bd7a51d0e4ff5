-- UDP datagrams over IPv4 as lists of bytes: RFC 791, section 3.1, and RFC 768.
use Rattle.std.specs.Prelude.{◌≡◌, ℕ, ◌+◌, ◌*◌, ◌/◌, ◌%◌, ◌^◌, ◌<◌, ◌≤◌, List, ◌∷◌, ◌++◌, length, bit_and}
use Rattle.byteorder.specs.Endian.{big_bytes}
use Rattle.td_base.specs.Ep.{IsEp}
use Rattle.td_base.specs.declared.endpoint.Ep.{Ep}
use Rattle.td_ipv4.specs.declared.udp4.Udp4.{Udp4}
use Rattle.td_ipv4.specs.declared.numbers.TheConstants.{IPV4, WORD, HEAD_MIN, OPTIONS_MAX, TOTAL_MAX, FRAGMENT_BITS, UDP, UDP_HEAD}

-- a datagram without where its parts lie in memory
pub record Udp4Fields : Type 0 where
  pub tos : ℕ
  pub id : ℕ
  pub frag : ℕ
  pub ttl : ℕ
  pub head_sum : ℕ
  pub options : List ℕ
  pub src : Ep
  pub dst : Ep
  pub udp_sum : ℕ
  pub body : List ℕ

-- a datagram without where its options and its body lie in memory
abbrev pub udp4_view : Udp4 → Udp4Fields
udp4_view u = record {
  tos = u.tos;
  id = u.id;
  frag = u.frag;
  ttl = u.ttl;
  head_sum = u.head_sum;
  options = u.options.now;
  src = u.src;
  dst = u.dst;
  udp_sum = u.udp_sum;
  body = u.body.now;
}

-- UDP's length, and the whole's, in bytes
abbrev pub udp_len : Udp4Fields → ℕ
udp_len v = UDP_HEAD + length v.body

-- the length that the IPv4 header tells
abbrev pub total_len : Udp4Fields → ℕ
total_len v = HEAD_MIN + length v.options + udp_len v

-- what has a spelling: no fragment, options in whole words, and what its lengths can tell
pub record IsUdp4 (v : Udp4Fields) : Type 0 where
  pub tos : v.tos < 2 ^ 8
  pub id : v.id < 2 ^ 16
  pub frag : v.frag < 2 ^ 16
  pub whole : bit_and v.frag FRAGMENT_BITS ≡ 0
  pub ttl : v.ttl < 2 ^ 8
  pub head_sum : v.head_sum < 2 ^ 16
  pub words : length v.options % WORD ≡ 0
  pub options : length v.options ≤ OPTIONS_MAX
  pub src : IsEp v.src
  pub dst : IsEp v.dst
  pub udp_sum : v.udp_sum < 2 ^ 16
  pub total : total_len v ≤ TOTAL_MAX

-- version and header length in words, 4 bits each; service; total length
abbrev pub first_word : Udp4Fields → List ℕ
first_word v = (IPV4 * 2 ^ 4 + (HEAD_MIN + length v.options) / WORD) ∷ v.tos ∷ big_bytes 2 (total_len v)

-- that word; identification and fragment field; time to live, protocol and this checksum; source; destination
abbrev pub fixed_head : (sum : ℕ) → Udp4Fields → List ℕ
fixed_head sum v =
    first_word v ++ (big_bytes 2 v.id ++ (big_bytes 2 v.frag ++ (v.ttl ∷ UDP ∷ (big_bytes 2 sum ++ (v.src.ip.0 ++ v.dst.ip.0)))))

-- source and destination port, length and this checksum
abbrev pub udp_head : (sum : ℕ) → Udp4Fields → List ℕ
udp_head sum v = big_bytes 2 v.src.port ++ (big_bytes 2 v.dst.port ++ (big_bytes 2 (udp_len v) ++ big_bytes 2 sum))

-- the one spelling of a datagram
unfoldable pub udp4_bytes : Udp4Fields → List ℕ
udp4_bytes v = (fixed_head v.head_sum v ++ v.options) ++ (udp_head v.udp_sum v ++ v.body)

-- x is the bytes of the datagram v
abbrev pub Udp4Bytes : Udp4Fields → List ℕ → Type 0
Udp4Bytes v x = IsUdp4 v × (x ≡ udp4_bytes v)
