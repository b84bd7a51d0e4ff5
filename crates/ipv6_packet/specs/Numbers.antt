-- The numbers of the header.
use Rattle.std.specs.Prelude.{◌≡◌}
use Rattle.ipv6_packet.specs.declared.header.TheConstants.{HEADER, VERSION, NEXT_NONE, PACKET_MAX, NEXT_ICMP}

-- the numbers of the header are the standards'
pub record PacketNumbers : Type 0 where
  -- RFC 8200, sections 3, 4.7 and 5
  pub header : HEADER ≡ 40
  pub version : VERSION ≡ 6
  pub none : NEXT_NONE ≡ 59
  pub packet_most : PACKET_MAX ≡ 1280
  -- RFC 4443, section 1
  pub icmpv6 : NEXT_ICMP ≡ 58
