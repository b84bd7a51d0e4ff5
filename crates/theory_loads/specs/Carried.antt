-- What carries a packet of a host has its bytes: on the wire, where it waits, and where it is held.
use Rattle.std.specs.Prelude.{◌≡◌, ℕ, if◌then◌else◌, List, [], ◌∷◌, ◌++◌, map, get_or, Option, Some, None, option_and_then}
use Rattle.td_base.specs.declared.ipv6.Ip6.{Ip6}
use Rattle.bubble.specs.PacketsIn.{packet_in}
use Rattle.teredo_node.specs.Journal.{Input, given, Entry}
use Rattle.peer_list.specs.declared.held.Held.{Held}
use Rattle.peer_list.specs.Peers.{known}
use Rattle.native_host.specs.Natives.{native_in}
use Rattle.topology.specs.declared.node.Node.{Node}
use Rattle.topology.specs.Rules.{IsTopology}
use Rattle.history.specs.Full.{Item, udp, six, Full, wire}
use Rattle.legal.specs.Lab.{Lab}
use Rattle.legal.specs.Past.{journal}
use Rattle.legal.specs.Legal.{Grown}
use Rattle.loads.specs.declared.load.Load.{Load}
use Rattle.loads.specs.declared.load.Load.TheVariants.{Packet, ReplyTo}
use Rattle.loads.specs.Numbered.{mentions_by, numbered_mentions, waiting_records, HeldRecord, held_for}
use Rattle.loads.specs.Loads.{load_at, is_handing_in, loads}

-- THE BYTES OF A LOAD

-- the packet that a node was given by its host, if this was its input
abbrev pub given_by_host : Input → Option (List ℕ)
given_by_host (given x) = Some x
given_by_host _ = None

-- the packet that a record's host handed in, if its node was given one
abbrev pub packet_of_host : Full → Option (List ℕ)
packet_of_host r = option_and_then (λ (e : Entry). given_by_host e.input) r.entry

-- the packets that hosts handed in during a history, in order
abbrev pub packets_of_hosts : List Full → List (Option (List ℕ))
packets_of_hosts [] = []
packets_of_hosts (r ∷ H) = packets_of_hosts H ++ (if is_handing_in r.act then packet_of_host r ∷ [] else [])

-- *bytes of a load*: the packet of its number, as its host handed it in; of a reply, what a native host answers to that packet.
abbrev pub bytes_of_load : List Full → Load → Option (List ℕ)
bytes_of_load H (Packet k) = get_or (packets_of_hosts H) k None
bytes_of_load H (ReplyTo k) = option_and_then (λ (x : List ℕ). (native_in x).packet) (get_or (packets_of_hosts H) k None)

-- WHAT HAS THEM

-- there are these bytes, and they are those of the load
pub record HasBytesOf (H : List Full) (l : Load) (o : Option (List ℕ)) : Type 0 where
  pub bytes : List ℕ
  pub load : bytes_of_load H l ≡ Some bytes
  pub same : o ≡ Some bytes

-- so it is where there is a load
abbrev pub HasBytesIfLoaded : List Full → Option Load → Option (List ℕ) → Type 0
HasBytesIfLoaded H None o = Unit {0}
HasBytesIfLoaded H (Some l) o = HasBytesOf H l o

-- each of these has the bytes of its load, one by one
abbrev pub EachHasBytes : List Full → List (Option Load) → List (Option (List ℕ)) → Type 0
EachHasBytes H [] [] = Unit {0}
EachHasBytes H (l ∷ ls) (o ∷ os) = HasBytesIfLoaded H l o × EachHasBytes H ls os
EachHasBytes H _ _ = ⊥

-- the IPv6 packet of an entry of the wire, if it has one
abbrev pub packet_on_wire : Item → Option (List ℕ)
packet_on_wire (udp src dst bytes) = packet_in bytes
packet_on_wire (six relay bytes) = Some bytes

-- *carries its packet*: what has a load has its bytes: an entry's IPv6 packet, a packet that waits and one that is held.
pub record CarriesPackets (lab : Lab) (H : List Full) : Type 0 where
  -- each entry of the wire
  pub wire : EachHasBytes H (loads lab.topology H).wire (map packet_on_wire (wire H))
  -- each packet that waits for an address at a node, at any moment
  pub waiting : (n : ℕ) (a : Node) (m : ℕ) (p : Ip6) → EachHasBytes H
      (map (load_at (loads lab.topology H).records) (waiting_records (numbered_mentions H n a) m p))
      (map (λ (x : List ℕ). Some x) (known (mentions_by a (journal n H).entries) m p).waiting)
  -- each that is held of one
  pub held : (n : ℕ) (a : Node) (m : ℕ) (p : Ip6) → EachHasBytes H
      (map (λ (h : HeldRecord). load_at (loads lab.topology H).records h.number) (held_for (numbered_mentions H n a) m p))
      (map (λ (h : Held). Some h.packet) (known (mentions_by a (journal n H).entries) m p).held)

-- in a history of a topology that keeps its rules all that has a load has its bytes, whatever strangers do
abbrev pub EachCarriesItsPacket : Type 0
EachCarriesItsPacket = (lab : Lab) (H : List Full) → IsTopology lab.topology → Grown lab H → CarriesPackets lab H
