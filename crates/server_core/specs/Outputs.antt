-- What the server sends (RFC 4380, sections 5.3.1 and 5.3.2).
use Rattle.std.specs.Prelude.{ℕ, List, ◌∷◌, ◌++◌, replicate, Option, Some, None}
use Rattle.byteorder.specs.Endian.{big_bytes}
use Rattle.td_base.specs.declared.ipv4.Ip4.{Ip4}
use Rattle.td_base.specs.declared.ipv6.Ip6.{Ip6}
use Rattle.td_base.specs.declared.endpoint.Ep.{Ep}
use Rattle.ipv6_packet.specs.Packets.{Fields}
use Rattle.ipv6_packet.specs.declared.header.TheConstants.{NEXT_ICMP, PACKET_MAX}
use Rattle.icmp6.specs.Message.{Message, router_advert}
use Rattle.icmp6.specs.Layout.{message_bytes}
use Rattle.icmp6.specs.declared.numbers.TheConstants.{ROUTER_HOP}
use Rattle.indications.specs.Blocks.{indications_bytes}
use Rattle.bubble.specs.Reads.{payload_bytes}
use Rattle.server_core.specs.declared.server.ServerSettings.{ServerSettings}
use Rattle.server_core.specs.Conditions.{server_link_local}

-- a Prefix Information: 64 bits, autonomous, both lifetimes without end, the prefix 2001:0:P::; an MTU
abbrev pub advert_options : Ip4 → List ℕ
advert_options primary = 3 ∷ 4 ∷ 64 ∷ 0x40 ∷ replicate 8 255 ++ replicate 4 0 ++ 0x20 ∷ 1 ∷ 0 ∷ 0 ∷ primary.0
    ++ replicate 8 0 ++ 5 ∷ 1 ∷ 0 ∷ 0 ∷ big_bytes 4 PACKET_MAX

-- a Router Advertisement with these options, its other fields 0
abbrev pub advertisement : Ip4 → Message
advertisement primary = router_advert 0 0 0 0 0 (advert_options primary)

-- a packet with it, from the server to a client
abbrev pub advert_packet : ServerSettings → Ip6 → Fields
advert_packet s client = record {
  class = 0;
  flow = 0;
  next = NEXT_ICMP;
  hop = ROUTER_HOP;
  src = server_link_local s;
  dst = client;
  body = message_bytes (server_link_local s) client (advertisement s.primary);
}

-- the answer to a client's solicitation from `from`: the nonce that came, the origin, the advertisement
unfoldable pub advert_bytes : ServerSettings → Ep → Option ℕ → Ip6 → List ℕ
advert_bytes s from nonce client = payload_bytes nonce (Some from) (advert_packet s client)

-- a packet that goes on: unchanged, without authentication, with the origin that is given
unfoldable pub forwarded : Option Ep → List ℕ → List ℕ
forwarded origin packet = indications_bytes None origin ++ packet
