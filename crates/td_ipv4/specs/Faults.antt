-- Why bytes spell no datagram, apart from how they are read: RFC 791, section 3.1, and RFC 768.
use Rattle.std.specs.Prelude.{◌≡◌, ◌≢◌, ℕ, ◌+◌, ◌/◌, ◌<◌, ◌≤◌, List, length, slice_index, bit_and, ◌⊎◌}
use Rattle.td_base.specs.Bytes.{number_at}
use Rattle.td_ipv4.specs.declared.numbers.TheConstants.{IPV4, HEAD_MIN, FRAGMENT_BITS, UDP, UDP_HEAD}
use Rattle.td_ipv4.specs.declared.fault.Ip4Fault.{Ip4Fault}
use Rattle.td_ipv4.specs.declared.fault.Ip4Fault.TheVariants.{Short, Version, Head, Length, Fragment, Protocol, UdpShort, UdpLength}
use Rattle.td_ipv4.specs.Tests.{words_at, head_len}

-- a header's bytes, of version 4
pub record IsIpv4 (x : List ℕ) : Type 0 where
  pub long : HEAD_MIN ≤ length x
  pub version : slice_index x 0 / 16 ≡ IPV4

-- and all of the header that is told
pub record HasIp4Head (x : List ℕ) : Type 0 where
  pub ipv4 : IsIpv4 x
  pub least : HEAD_MIN ≤ head_len x
  pub there : head_len x ≤ length x

-- and as many bytes as are told
pub record IsIp4Long (x : List ℕ) : Type 0 where
  pub head : HasIp4Head x
  pub total : number_at 2 2 x ≡ length x

-- and no fragment
pub record IsWholeIp4 (x : List ℕ) : Type 0 where
  pub long : IsIp4Long x
  pub whole : bit_and (number_at 6 2 x) FRAGMENT_BITS ≡ 0

-- and of UDP
pub record IsOfUdp (x : List ℕ) : Type 0 where
  pub whole : IsWholeIp4 x
  pub udp : slice_index x 9 ≡ UDP

-- the fault is the first one of x: its condition holds, and none before it does
abbrev pub IsFirstIp4Fault : Ip4Fault → List ℕ → Type 0
IsFirstIp4Fault (Short len) x = (len ≡ length x) × (len < HEAD_MIN)
IsFirstIp4Fault (Version nibble) x = (HEAD_MIN ≤ length x) × (nibble ≡ slice_index x 0 / 16) × (nibble ≢ IPV4)
IsFirstIp4Fault (Head words) x = IsIpv4 x × (words ≡ words_at x) × ((head_len x < HEAD_MIN) ⊎ (length x < head_len x))
IsFirstIp4Fault (Length said there) x = HasIp4Head x × (said ≡ number_at 2 2 x) × (there ≡ length x) × (said ≢ there)
IsFirstIp4Fault (Fragment field) x = IsIp4Long x × (field ≡ number_at 6 2 x) × (bit_and field FRAGMENT_BITS ≢ 0)
IsFirstIp4Fault (Protocol number) x = IsWholeIp4 x × (number ≡ slice_index x 9) × (number ≢ UDP)
IsFirstIp4Fault (UdpShort len) x = IsOfUdp x × (head_len x + len ≡ length x) × (len < UDP_HEAD)
IsFirstIp4Fault (UdpLength said there) x =
    IsOfUdp x × (head_len x + there ≡ length x) × (UDP_HEAD ≤ there) × (said ≡ number_at (head_len x + 4) 2 x) × (said ≢ there)
