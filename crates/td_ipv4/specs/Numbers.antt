-- The numbers of both headers.
use Rattle.std.specs.Prelude.{◌≡◌}
use Rattle.td_ipv4.specs.declared.numbers.TheConstants.{IPV4, WORD, HEAD_MIN, OPTIONS_MAX, TOTAL_MAX, FRAGMENT_BITS, UDP, UDP_HEAD, NO_SUM, TTL}

-- the numbers of both headers are the standards'
pub record DatagramNumbers : Type 0 where
  -- RFC 791, section 3.1
  pub version : IPV4 ≡ 4
  pub word : WORD ≡ 4
  pub head : HEAD_MIN ≡ 20
  pub options_most : OPTIONS_MAX ≡ 40
  pub total_most : TOTAL_MAX ≡ 65535
  pub fragment : FRAGMENT_BITS ≡ 0x3fff
  -- RFC 768
  pub udp : UDP ≡ 17
  pub udp_head : UDP_HEAD ≡ 8
  pub no_sum : NO_SUM ≡ 0
  -- RFC 1700
  pub ttl : TTL ≡ 64
