-- Types, lengths and limits.
use Rattle.std.specs.Prelude.{◌≡◌}
use Rattle.icmp6.specs.declared.numbers.TheConstants.{ICMPV6, HEAD_LEN, ECHO_LEN, ECHO_REQUEST, ECHO_REPLY}
use Rattle.icmp6.specs.declared.numbers.TheConstants.{ROUTER_SOLICIT, SOLICIT_LEN, ROUTER_ADVERT, ADVERT_LEN}
use Rattle.icmp6.specs.declared.numbers.TheConstants.{ROUTER_HOP, OPTION_HEAD_LEN, OPTION_UNIT, PREFIX_INFORMATION}
use Rattle.icmp6.specs.declared.numbers.TheConstants.{PREFIX_UNITS, MTU_OPTION, MTU_UNITS}

-- types, lengths and limits are the standards'
pub record MessageNumbers : Type 0 where
  -- RFC 4443, sections 1, 2.1, 4.1 and 4.2
  pub icmpv6 : ICMPV6 ≡ 58
  pub head : HEAD_LEN ≡ 4
  pub echo : ECHO_LEN ≡ 8
  pub echo_request : ECHO_REQUEST ≡ 128
  pub echo_reply : ECHO_REPLY ≡ 129
  -- RFC 4861, sections 4.1, 4.2 and 6.1
  pub solicit : ROUTER_SOLICIT ≡ 133
  pub solicit_len : SOLICIT_LEN ≡ 8
  pub advert : ROUTER_ADVERT ≡ 134
  pub advert_len : ADVERT_LEN ≡ 16
  pub hop : ROUTER_HOP ≡ 255
  -- RFC 4861, sections 4.6, 4.6.2 and 4.6.4
  pub option_head : OPTION_HEAD_LEN ≡ 2
  pub option_unit : OPTION_UNIT ≡ 8
  pub prefix : PREFIX_INFORMATION ≡ 3
  pub prefix_units : PREFIX_UNITS ≡ 4
  pub mtu : MTU_OPTION ≡ 5
  pub mtu_units : MTU_UNITS ≡ 1
