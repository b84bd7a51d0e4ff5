-- What the lines of the server's table ask of a datagram (RFC 4380, section 5.3.1).
use Rattle.std.specs.Prelude.{◌&&◌, ◌||◌, not, Bool, true, false, Option, Some}
use Rattle.td_base.specs.Ip4.{same_ip}
use Rattle.td_base.specs.Ip6.{same_ip6}
use Rattle.td_base.specs.Ep.{same_ep, server_ep}
use Rattle.td_base.specs.Reach.{is_usable, is_link_local}
use Rattle.td_base.specs.declared.ipv4.Ip4.{Ip4}
use Rattle.td_base.specs.declared.ipv6.Ip6.{Ip6}
use Rattle.td_base.specs.declared.endpoint.Ep.{Ep}
use Rattle.ipv6_packet.specs.Packets.{Fields}
use Rattle.icmp6.specs.Message.{Message, router_solicit}
use Rattle.bubble.specs.Messages.{message_in}
use Rattle.teredo_addr.specs.Teredo.{is_teredo, server_in, embedded, link_local}
use Rattle.teredo_addr.specs.declared.local.TheConstants.{ALL_ROUTERS}
use Rattle.bubble.specs.Bubbles.{packet_kind}
use Rattle.bubble.specs.declared.kinds.Kind.{Kind}
use Rattle.bubble.specs.declared.kinds.Kind.TheVariants.{Bubble, Icmp, Data}
use Rattle.server_core.specs.declared.server.ServerSettings.{ServerSettings}

-- is it a packet of data?
abbrev pub is_data : Kind → Bool
is_data Bubble = false
is_data Icmp = false
is_data Data = true

-- neither a bubble nor ICMPv6
unfoldable pub is_other_kind : Fields → Bool
is_other_kind p = is_data (packet_kind p)

-- one of the server's two addresses
unfoldable pub is_own : ServerSettings → Ip4 → Bool
is_own s ip = same_ip ip s.primary || same_ip ip s.secondary

-- the server's link-local address
abbrev pub server_link_local : ServerSettings → Ip6
server_link_local s = link_local true (server_ep s.primary)

-- the destination is the server
unfoldable pub is_for_server : ServerSettings → Fields → Bool
is_for_server s p = same_ip6 p.dst (server_link_local s)

-- is it a Router Solicitation?
abbrev pub is_solicit : Option Message → Bool
is_solicit (Some (router_solicit options)) = true
is_solicit _ = false

-- a Router Solicitation from a link-local address to all routers
unfoldable pub is_solicitation : Fields → Bool
is_solicitation p = is_link_local p.src && same_ip6 p.dst ALL_ROUTERS && is_solicit (message_in p)

-- a Teredo source that doesn't embed the endpoint that the datagram came from
unfoldable pub is_forged : Ep → Fields → Bool
is_forged from p = is_teredo p.src && not (same_ep (embedded p.src) from)

-- the destination is a Teredo address with this server
unfoldable pub is_for_client : ServerSettings → Fields → Bool
is_for_client s p = is_teredo p.dst && same_ip (server_in p.dst) s.primary

-- from outside Teredo, and for no client of this server
unfoldable pub is_not_ours : ServerSettings → Fields → Bool
is_not_ours s p = not (is_teredo p.src) && not (is_for_client s p)

-- a Teredo destination whose embedded endpoint can't be used
unfoldable pub is_unusable : ServerSettings → Fields → Bool
is_unusable s p = is_teredo p.dst && not (is_usable s.policy (embedded p.dst))

-- a Teredo destination that embeds an address of the server
unfoldable pub is_looped : ServerSettings → Fields → Bool
is_looped s p = is_teredo p.dst && is_own s (embedded p.dst).ip
