-- What a socket of the system answers, in the terms of a link.
use Rattle.std.specs.Prelude.{ℕ, Option, Some, None}
use Rattle.std.specs.declared.net.socket_addr.SocketAddrV4.{SocketAddrV4}
use Rattle.std.specs.declared.net.socket_addr.SocketAddr.{SocketAddr}
use Rattle.std.specs.declared.net.socket_addr.SocketAddr.TheVariants.{V4, V6}
use Rattle.std.specs.Net.Addr.{ipv4_octets}
use Rattle.std.specs.Net.Socket.{v4_ip, v4_port}
use Rattle.td_base.specs.declared.endpoint.Ep.{Ep}
use Rattle.td_base.specs.declared.side.Side.{Side}
use Rattle.td_outside.specs.declared.link.Arrival.{Arrival}
use Rattle.td_outside.specs.declared.link.Arrival.TheVariants.{Got, Idle}

-- the endpoint of an address of the system
abbrev pub endpoint_of : SocketAddrV4 → Ep
endpoint_of a = record { ip = record { 0 = ipv4_octets (v4_ip a) }; port = v4_port a }

-- where it is one of IPv4
abbrev pub endpoint_at : SocketAddr → Option Ep
endpoint_at (V4 a) = Some (endpoint_of a)
endpoint_at (V6 a) = None

-- a datagram of this length from there, that came to this side
abbrev pub arrival_from : Side → SocketAddr → ℕ → Arrival
arrival_from side (V4 a) len = Got side (endpoint_of a) len
arrival_from side (V6 a) len = Idle
