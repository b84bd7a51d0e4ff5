-- What waits and what is held, by the numbers of the records that kept it: in a history in which each node's entry has, in place of
-- its packet, the number of its record, the same definitions say which records' packets wait, and which are held.
use Rattle.std.specs.Prelude.{ℕ, List, [], ◌∷◌, length, map, get_or, option_map}
use Rattle.td_base.specs.declared.endpoint.Ep.{Ep}
use Rattle.td_base.specs.declared.ipv6.Ip6.{Ip6}
use Rattle.teredo_node.specs.Journal.{Entry}
use Rattle.peer_list.specs.declared.held.Held.{Held}
use Rattle.peer_list.specs.Mentions.{Mention}
use Rattle.peer_list.specs.Peers.{known}
use Rattle.client_rules.specs.Bearings.{mentions}
use Rattle.relay_rules.specs.Bearings.{relay_mentions}
use Rattle.topology.specs.declared.node.Node.{Node}
use Rattle.topology.specs.declared.node.Node.TheVariants.{Server as server, Nat as nat, Client as client, Relay as relay, Native as native}
use Rattle.history.specs.Full.{Full}
use Rattle.legal.specs.Past.{journal}

-- an entry with a number in place of its packet, as a list of that one number
abbrev pub with_number : ℕ → Entry → Entry
with_number i e = record e { packet = option_map (λ (x : List ℕ). i ∷ []) e.packet }

-- a history in which the number of its record stands in place of each packet
abbrev pub with_record_numbers : List Full → List Full
with_record_numbers [] = []
with_record_numbers (r ∷ H) = record r { entry = option_map (with_number (length H)) r.entry } ∷ with_record_numbers H

-- What a node's journal says of its peers. A server, a NAT and a native host have none.
abbrev pub mentions_by : Node → List Entry → List Mention
mentions_by (server a) j = []
mentions_by (nat a) j = []
mentions_by (client c) j = mentions j
mentions_by (relay r) j = relay_mentions j
mentions_by (native h) j = []

-- what the journal of node n, which is a, says of its peers, with the numbers of records in place of packets
abbrev pub numbered_mentions : List Full → ℕ → Node → List Mention
numbered_mentions H n a = mentions_by a (journal n (with_record_numbers H)).entries

-- the number that stands where a packet stood
abbrev pub number_in : List ℕ → ℕ
number_in x = get_or x 0 0

-- the numbers of the records whose packets wait for p at m, in their order
abbrev pub waiting_records : List Mention → ℕ → Ip6 → List ℕ
waiting_records j m p = map number_in (known j m p).waiting

-- a packet that is held: the number of its record, and the endpoint that it came from
pub record HeldRecord : Type 0 where
  pub from : Ep
  pub number : ℕ

-- a held packet, where the number stands in its place
abbrev pub held_record : Held → HeldRecord
held_record h = record { from = h.from; number = number_in h.packet }

-- the packets that are held of p at m, in their order
abbrev pub held_for : List Mention → ℕ → Ip6 → List HeldRecord
held_for j m p = map held_record (known j m p).held
