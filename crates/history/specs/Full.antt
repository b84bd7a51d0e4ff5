-- Full records and the wire. A history is a list of full records, the latest first.
use Rattle.std.specs.Prelude.{ℕ, List, [], ◌++◌, ◌∷◌, filter_map, Option, Some, None}
use Rattle.td_base.specs.declared.endpoint.Ep.{Ep}
use Rattle.td_base.specs.declared.ipv6.Ip6.{Ip6}
use Rattle.teredo_node.specs.declared.fate.Fate.{Fate}
use Rattle.teredo_node.specs.Journal.{Entry}
use Rattle.topology.specs.Chains.{Passing}
use Rattle.events.specs.declared.event.Event.{Event}
use Rattle.history.specs.declared.act.Act.{Act}
use Rattle.history.specs.declared.mark.Loss.{Loss}

-- *datagram*: a source endpoint, a destination endpoint and a list of bytes.
-- an entry of the wire
pub data Item : Type 0 where
  udp : (src dst : Ep) (bytes : List ℕ) → Item
  six : (relay : Option ℕ) (bytes : List ℕ) → Item  -- an IPv6 packet, for a relay or for whoever has its destination

-- what became of a send
pub data Made : Type 0 where
  sent : Item → Made
  lost : Loss → (dst : Ep) (bytes : List ℕ) → Made

-- *full record*: a record with everything that the line leaves out: the event, what the node was given and did, and the
-- bytes of each datagram that was made.
-- one step of the laboratory, with all that went in and came out
pub record Full : Type 0 where
  pub event : ℕ  -- the event's number
  pub asked : Event  -- the event
  pub moment : ℕ
  pub act : Act
  pub node : Option ℕ  -- the node that decided, or that acted or was named first
  pub fate : Fate
  pub delivered : Option ℕ  -- the number of the entry that was delivered
  pub entry : Option Entry  -- what the node was given and did
  pub address : Option Ip6  -- that which a client got
  pub handed : Option (List ℕ)  -- the packet that a client's host was handed
  pub late : List (List ℕ)  -- the packets that had been held, and that it was handed now
  pub first : ℕ  -- the number of the first entry that was made
  pub made : List Made  -- its sends and entries, in order
  pub passed : List Passing  -- what NATs let out of it, the latest first

-- what came onto the wire, if it wasn't lost
abbrev pub item_in : Made → Option Item
item_in (sent item) = Some item
item_in (lost why dst bytes) = None

-- what a record put onto the wire, in order
abbrev pub items_of : Full → List Item
items_of r = filter_map item_in r.made

-- *wire*: everything that was sent, in order, numbered from 0. It follows from the records: what the first made, then
-- what the second made, and so on. Nothing leaves it.
-- all datagrams and IPv6 packets, in order, numbered from 0
abbrev pub wire : List Full → List Item
wire [] = []
wire (r ∷ H) = wire H ++ items_of r

-- the bytes of an entry of the wire
abbrev pub bytes_of : Item → List ℕ
bytes_of (udp src dst bytes) = bytes
bytes_of (six relay bytes) = bytes
