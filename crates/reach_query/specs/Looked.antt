-- What one look at a list of peers tells of an address (RFC 4380, section 5.2).
use Rattle.std.specs.Prelude.{Option, unwrap_or}
use Rattle.peer_list.specs.Peers.{Peer, no_peer}

-- what is known of an address: of one that isn't listed nothing
abbrev pub known_of : Option Peer → Peer
known_of found = unwrap_or found no_peer
