-- What the tables of words ask: of a client and its NATs, and of what a client or a relay knows of a peer.
use Rattle.std.specs.Prelude.{nat_le, ℕ, ◌+◌, ◌==◌, ◌&&◌, ◌||◌, not, Bool, false, if◌then◌else◌, List, [], length, Option, Some, None}
use Rattle.td_base.specs.declared.ipv6.Ip6.{Ip6}
use Rattle.td_base.specs.declared.endpoint.Ep.{Ep}
use Rattle.teredo_addr.specs.Teredo.{embedded, has_cone}
use Rattle.peer_list.specs.declared.limits.TheConstants.{PEERS_MAX}
use Rattle.peer_list.specs.Mentions.{Mention}
use Rattle.peer_list.specs.Listed.{is_listed, listed}
use Rattle.peer_list.specs.Peers.{Peer}
use Rattle.peer_list.specs.Judged.{is_none}
use Rattle.qualify.specs.Solicitations.{is_qualified}
use Rattle.client_rules.specs.Bearings.{mentions}
use Rattle.relay_rules.specs.Bearings.{relay_mentions}
use Rattle.topology.specs.declared.client_node.ClientNode.{ClientNode}
use Rattle.history.specs.Full.{udp, Full}
use Rattle.legal.specs.Lab.{Lab}
use Rattle.legal.specs.Past.{now, journal}
use Rattle.legal.specs.Emit.{Route, reaches, closed, astray, route}
use Rattle.theory_settled.specs.Clients.{standing, client_address, asks_at}
use Rattle.theory_ways.specs.Ways.{has_symmetric, is_all_cone}

-- A CLIENT AND ITS NATS

-- client n is qualified
abbrev pub is_on : Lab → List Full → ℕ → ClientNode → Bool
is_on lab H n c = is_qualified (standing lab H n c).phase

-- what is sent from one endpoint to another is led to node n: past NATs, where these let it in
abbrev pub ends_at : ℕ → Route → Bool
ends_at n (reaches k a) = k == n
ends_at n (closed k) = false
ends_at n astray = false

-- *led to a node*: what is sent from one endpoint to another ends at the node: past NATs, where these let it in.
unfoldable pub is_led_to : Lab → List Full → (src dst : Ep) → ℕ → Bool
is_led_to lab H src dst n = ends_at n (route lab H (now H) (udp src dst []))

-- client n with this address, if any, is settled along its way: no NAT of the way is symmetric, what its server sends to the
-- endpoint in its address is led to it, and it has the cone bit only where each NAT of the way is cone
abbrev pub is_settled_with : Lab → List Full → ℕ → ClientNode → Option Ip6 → Bool
is_settled_with lab H n c None = false
is_settled_with lab H n c (Some own) =
    not (has_symmetric lab c) && (is_led_to lab H (asks_at lab c) (embedded own) n && (not (has_cone own) || is_all_cone lab c))

-- is the client settled along its way?
unfoldable pub is_settled : Lab → List Full → ℕ → ClientNode → Bool
is_settled lab H n c = is_settled_with lab H n c (client_address lab H n c)

-- WHAT IS KNOWN

-- what happened to client n, and to relay k, by their peers
abbrev pub peers_of : List Full → ℕ → List Mention
peers_of H n = mentions (journal n H).entries

-- what a relay's journal says of clients
abbrev pub clients_of : List Full → ℕ → List Mention
clients_of H k = relay_mentions (journal k H).entries

-- packets wait for the peer
abbrev pub keeps_packets : Peer → Bool
keeps_packets peer = not (is_none peer.waiting)

-- one place is wanted for a peer that isn't listed
abbrev pub places_for : List Mention → ℕ → Ip6 → ℕ
places_for j m p = if is_listed p m j then 0 else 1

-- there is room for two peers: for those of them that aren't listed, beside all that are
abbrev pub has_room_for_both : List Mention → ℕ → (p q : Ip6) → Bool
has_room_for_both j m p q = nat_le (length (listed j m) + (places_for j m p + places_for j m q)) PEERS_MAX
