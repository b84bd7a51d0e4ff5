-- How a relay is set up, and what its tables read of its journal.
use Rattle.std.specs.Prelude.{ℕ, Bool, List, Option, unwrap_or}
use Rattle.td_base.specs.declared.ipv6.Ip6.{Ip6}
use Rattle.td_base.specs.declared.endpoint.Ep.{Ep}
use Rattle.td_base.specs.declared.reach.Policy.{Policy}
use Rattle.teredo_addr.specs.Teredo.{unspecified}
use Rattle.teredo_node.specs.Journal.{Entry}
use Rattle.peer_list.specs.Listed.{has_room}
use Rattle.peer_list.specs.Peers.{Peer, no_peer, peer_at}
use Rattle.relay_rules.specs.Bearings.{relay_mentions}

-- *relay*: a node with an endpoint and an IPv6 address, which passes packets between native hosts and clients: RFC
-- 4380, section 5.4.
-- *serves*: a relay serves the native hosts that name it: it passes on what clients send to them, and nothing else.
-- its endpoint and its IPv6 address, which addresses are global, the natives that it serves
pub record RelaySettings : Type 0 where
  pub at : Ep
  pub six : Ip6
  pub policy : Policy
  pub served : List Ip6

-- *standing of a relay to an address*: what its tables read of its journal at a moment: what is known of the address,
-- and room for it.
pub record RelayStanding : Type 0 where
  pub moment : ℕ
  pub peer : Option Peer  -- what is known of the address, where it is listed
  pub room : Bool  -- it is listed, or there is room for it

-- what is known of the address, be it listed or not
abbrev pub relay_known_in : RelayStanding → Peer
relay_known_in a = unwrap_or a.peer no_peer

-- the standing of a relay to an address at a moment
unfoldable pub relay_standing_at : List Entry → ℕ → Ip6 → RelayStanding
relay_standing_at j n p = record {
  moment = n;
  peer = peer_at (relay_mentions j) n p;
  room = has_room (relay_mentions j) n p;
}

-- the same where there may be no address
abbrev pub relay_standing_of : List Entry → ℕ → Option Ip6 → RelayStanding
relay_standing_of j n p = relay_standing_at j n (unwrap_or p unspecified)
