-- Datagrams as lists of bytes: they read back, and their checksums verify.
use Rattle.std.specs.Prelude.{◌≡◌, ◌≤◌, ◌+◌, ℕ, List, ◌++◌, length, Ok}
use Rattle.td_base.specs.Bytes.{IsBytes}
use Rattle.td_base.specs.Ep.{IsEp}
use Rattle.td_base.specs.Sums.{halves_sum, folded}
use Rattle.td_base.specs.declared.endpoint.Ep.{Ep}
use Rattle.td_base.specs.declared.datagram.TheConstants.{DATAGRAM_MAX}
use Rattle.td_ipv4.specs.declared.numbers.TheConstants.{HEAD_MIN, UDP_HEAD}
use Rattle.td_ipv4.specs.Datagrams.{Udp4Fields, IsUdp4, total_len, fixed_head, udp_head, udp4_bytes, Udp4Bytes}
use Rattle.td_ipv4.specs.Tests.{udp4_at}
use Rattle.td_ipv4.specs.Checksums.{head_checksum, pseudo_head, udp_checksum, made_udp4, made_bytes}

-- a spelling is read as the datagram
abbrev pub Udp4ReadsBack : Type 0
Udp4ReadsBack = (v : Udp4Fields) → IsUdp4 v → udp4_at (udp4_bytes v) ≡ Ok v

-- bytes that are read as a datagram are its spelling
abbrev pub Udp4IsSpelled : Type 0
Udp4IsSpelled = (v : Udp4Fields) (x : List ℕ) → IsBytes x → udp4_at x ≡ Ok v → Udp4Bytes v x

-- so many bytes, which are bytes where options and body are
pub record IsUdp4Long (v : Udp4Fields) (x : List ℕ) : Type 0 where
  pub long : length x ≡ total_len v
  pub bytes : IsBytes v.options → IsBytes v.body → IsBytes x

-- the spelling of a datagram is so many bytes
abbrev pub Udp4IsBytes : Type 0
Udp4IsBytes = (v : Udp4Fields) → IsUdp4 v → IsUdp4Long v (udp4_bytes v)

-- Who sums what a right checksum covers, and the checksum with it, finds ffff: RFC 1071, section 1.
pub record SumsVerify (v : Udp4Fields) : Type 0 where
  pub head : v.head_sum ≡ head_checksum v → folded (halves_sum (fixed_head v.head_sum v ++ v.options)) ≡ 65535
  pub udp : v.udp_sum ≡ udp_checksum v → folded (halves_sum (pseudo_head v ++ (udp_head v.udp_sum v ++ v.body))) ≡ 65535

-- the sum of what a right checksum covers, and of the checksum, is ffff
abbrev pub ChecksumsVerify : Type 0
ChecksumsVerify = (v : Udp4Fields) → IsUdp4 v → SumsVerify v

-- what is made is a datagram of the body, and its sums are right
pub record IsMadeUdp4 (src dst : Ep) (body : List ℕ) : Type 0 where
  pub fits : IsUdp4 (made_udp4 src dst body)
  pub long : length (made_bytes src dst body) ≡ HEAD_MIN + UDP_HEAD + length body
  pub bytes : IsBytes body → IsBytes (made_bytes src dst body)
  pub head_sum : (made_udp4 src dst body).head_sum ≡ head_checksum (made_udp4 src dst body)
  pub udp_sum : (made_udp4 src dst body).udp_sum ≡ udp_checksum (made_udp4 src dst body)

-- what is made is a datagram with right checksums
abbrev pub MadeIsUdp4 : Type 0
MadeIsUdp4 = (src dst : Ep) (body : List ℕ) → IsEp src → IsEp dst → length body ≤ DATAGRAM_MAX → IsMadeUdp4 src dst body
