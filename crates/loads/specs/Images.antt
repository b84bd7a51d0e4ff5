-- What is known of a peer is what is known by the numbers of records, with the packets of these records in place of them.
use Rattle.std.specs.Prelude.{◌≡◌, ℕ, ◌==◌, if◌then◌else◌, List, [], ◌∷◌, map, length, option_and_then, unwrap_or}
use Rattle.td_base.specs.declared.ipv6.Ip6.{Ip6}
use Rattle.teredo_node.specs.Journal.{Entry}
use Rattle.peer_list.specs.declared.held.Held.{Held}
use Rattle.peer_list.specs.Peers.{Peer, known}
use Rattle.topology.specs.declared.node.Node.{Node}
use Rattle.history.specs.Full.{Full}
use Rattle.legal.specs.Past.{journal}
use Rattle.loads.specs.Numbered.{mentions_by, numbered_mentions, number_in}

-- the packet that a record's node was given
abbrev pub packet_by : Full → List ℕ
packet_by r = unwrap_or (option_and_then (λ (e : Entry). e.packet) r.entry) []

-- the packet of record i
abbrev pub packet_of_record : List Full → ℕ → List ℕ
packet_of_record [] i = []
packet_of_record (r ∷ H) i = if i == length H then packet_by r else packet_of_record H i

-- the packet of the record whose number stands here
abbrev pub packet_for : List Full → List ℕ → List ℕ
packet_for H x = packet_of_record H (number_in x)

-- a held packet, with another in its place
abbrev pub held_with : (List ℕ → List ℕ) → Held → Held
held_with packet h = record h { packet = packet h.packet }

-- what is known of a peer, with another packet in place of each that waits or is held
abbrev pub peer_with : (List ℕ → List ℕ) → Peer → Peer
peer_with packet peer = record peer { waiting = map packet peer.waiting; held = map (held_with packet) peer.held }

-- What is known of each address at each node, whatever happened, is what is known by the numbers of records, with these
-- records' packets in place of the numbers.
abbrev pub KnownIsImage : Type 0
KnownIsImage = (H : List Full) (n : ℕ) (a : Node) (m : ℕ) (p : Ip6)
    → known (mentions_by a (journal n H).entries) m p ≡ peer_with (packet_for H) (known (numbered_mentions H n a) m p)
