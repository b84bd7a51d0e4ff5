-- What a client's tables read of its journal: all of it that concerns one address at a moment.
use Rattle.std.specs.Prelude.{ℕ, Bool, Option, unwrap_or}
use Rattle.td_base.specs.declared.ipv6.Ip6.{Ip6}
use Rattle.teredo_addr.specs.Teredo.{unspecified}
use Rattle.teredo_node.specs.Journal.{Journal}
use Rattle.peer_list.specs.Listed.{has_room}
use Rattle.peer_list.specs.Peers.{Peer, no_peer, peer_at}
use Rattle.peer_list.specs.Waiting.{waiting_count}
use Rattle.qualify.specs.declared.settings.Settings.{Settings}
use Rattle.qualify.specs.Qualification.{Qualification, qualification}
use Rattle.client_rules.specs.Bearings.{mentions}

-- *standing of a client to an address*: all that its tables read of its journal at a moment: qualification, what is
-- known of the address, room for it, how many packets wait.
pub record Standing : Type 0 where
  pub moment : ℕ
  pub qualification : Qualification
  pub peer : Option Peer  -- what is known of the address, where it is listed
  pub room : Bool  -- it is listed, or there is room for it
  pub waiting : ℕ  -- packets for all peers

-- what is known of the address, be it listed or not
abbrev pub known_in : Standing → Peer
known_in a = unwrap_or a.peer no_peer

-- the standing of a client to an address at a moment
unfoldable pub standing_at : Settings → Journal → ℕ → Ip6 → Standing
standing_at s j n p = record {
  moment = n;
  qualification = qualification s j;
  peer = peer_at (mentions j.entries) n p;
  room = has_room (mentions j.entries) n p;
  waiting = waiting_count (mentions j.entries) n;
}

-- the same where there may be no address
abbrev pub standing_of : Settings → Journal → ℕ → Option Ip6 → Standing
standing_of s j n p = standing_at s j n (unwrap_or p unspecified)
