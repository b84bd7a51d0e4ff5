-- Which packet of a host each datagram carries, each packet that waits and each that is held.
use Rattle.std.specs.Prelude.{ℕ, ◌+◌, Bool, true, false, if◌then◌else◌, List, [], ◌∷◌, ◌++◌, map, drop, get_or, Option, Some, None, option_and_then, unwrap_or}
use Rattle.td_base.specs.declared.ipv6.Ip6.{Ip6}
use Rattle.teredo_addr.specs.Teredo.{unspecified}
use Rattle.teredo_node.specs.declared.fate.Fate.{Fate}
use Rattle.teredo_node.specs.declared.fate.Fate.TheVariants as fate
use Rattle.teredo_node.specs.Journal.{Entry}
use Rattle.peer_list.specs.Mentions.{Mention}
use Rattle.topology.specs.Rows.{TopologyState}
use Rattle.topology.specs.declared.node.Node.{Node}
use Rattle.topology.specs.Topology.{node_at}
use Rattle.events.specs.declared.verb.Verb.TheVariants as verb
use Rattle.history.specs.declared.act.Act.{Act}
use Rattle.history.specs.declared.act.Act.TheVariants as act
use Rattle.history.specs.Full.{Made, sent, lost, Full}
use Rattle.loads.specs.declared.load.Load.{Load}
use Rattle.loads.specs.declared.load.Load.TheVariants.{Packet, ReplyTo}
use Rattle.loads.specs.Numbered.{numbered_mentions, waiting_records}

-- the load of an answer: to a packet it is the reply to it, and to a reply it is none
abbrev pub answer_to : Option Load → Option Load
answer_to None = None
answer_to (Some (Packet k)) = Some (ReplyTo k)
answer_to (Some (ReplyTo k)) = None

-- *load*: a packet that a host handed in, by its number, or the echo reply that a native host makes of it.
-- what was carried until now
pub record Loads : Type 0 where
  pub packets : ℕ  -- how many packets hosts handed in
  pub records : List (Option Load)  -- what each record was given, in their order: the load of the entry that it delivers, or a packet of a host
  pub wire : List (Option Load)  -- what each entry of the wire carries

-- the load of this number in a list, if it has one
abbrev pub load_at : List (Option Load) → ℕ → Option Load
load_at loads i = get_or loads i None

-- WHAT A RECORD IS GIVEN

-- By this act a host hands in a packet.
abbrev pub is_handing_in : Act → Bool
is_handing_in (act.Plain verb.Host) = true
is_handing_in (act.Plain verb.Echo) = true
is_handing_in (act.Plain verb.Raw) = true
is_handing_in _ = false

-- what a record is given: the next packet, where a host hands one in, or else what the entry carries that it delivers
abbrev pub load_given : Loads → Full → Option Load
load_given l r = if is_handing_in r.act then Some (Packet l.packets) else option_and_then (load_at l.wire) r.delivered

-- WHAT IT RELEASES

-- By these fates all that waits for the packet's source is sent to it, before all else: the client or relay heard it (RFC 4380,
-- sections 5.2.3 and 5.4.2).
abbrev pub releases_all : Fate → Bool
releases_all fate.Rule1 = true
releases_all fate.Rule1Bubble = true
releases_all fate.Rule2 = true
releases_all fate.Rule3 = true
releases_all fate.Rule3Bubble = true
releases_all fate.FromClient = true
releases_all fate.FromClientBubble = true
releases_all fate.Unserved = true
releases_all _ = false

-- the peer that an entry is about, or else the unspecified address
abbrev pub entry_peer : Option Entry → Ip6
entry_peer e = unwrap_or (option_and_then (λ (x : Entry). x.peer) e) unspecified

-- what a record's node says of its peers before the record, with numbers in place of packets
abbrev pub mentions_if : List Full → ℕ → Option Node → List Mention
mentions_if H n None = []
mentions_if H n (Some a) = numbered_mentions H n a

-- the same of the node of a number, if there is one
abbrev pub mentions_at : TopologyState → List Full → Option ℕ → List Mention
mentions_at t H None = []
mentions_at t H (Some n) = mentions_if H n (node_at t n)

-- the numbers of the records whose packets waited for the peer of the record after H, and are sent to it by that
abbrev pub released_records : TopologyState → List Full → Full → List ℕ
released_records t H r = if releases_all r.fate then waiting_records (mentions_at t H r.node) r.moment (entry_peer r.entry) else []

-- WHAT CARRIES

-- What is made besides, where the record was given this load: by these fates it goes on (RFC 4380, sections 5.2.4, 5.3.1,
-- 5.4.1 and 5.4.2), or is answered.
abbrev pub load_goes_on : Fate → Option Load → List (Option Load)
load_goes_on fate.Sent l = l ∷ []
load_goes_on fate.SentCone l = l ∷ []
load_goes_on fate.SentSix l = l ∷ []
load_goes_on fate.Forward l = l ∷ []
load_goes_on fate.ForwardOrigin l = l ∷ []
load_goes_on fate.Six l = l ∷ []
load_goes_on fate.FromClient l = l ∷ []
load_goes_on fate.Echoed l = answer_to l ∷ []
load_goes_on _ l = []

-- What the sends and entries of a record carry, in order: first what was released, then what goes on. Those behind carry
-- nothing.
abbrev pub made_loads : TopologyState → List Full → Loads → Full → List (Option Load)
made_loads t H l r = map (load_at l.records) (released_records t H r) ++ load_goes_on r.fate (load_given l r)

-- of what a record's sends carry, what those carry that became entries
abbrev pub entry_loads : List Made → List (Option Load) → List (Option Load)
entry_loads [] loads = []
entry_loads (sent x ∷ made) loads = load_at loads 0 ∷ entry_loads made (drop 1 loads)
entry_loads (lost why dst bytes ∷ made) loads = entry_loads made (drop 1 loads)

-- what was carried, with the record after H
abbrev pub loads_after : TopologyState → List Full → Full → Loads → Loads
loads_after t H r l = record {
  packets = if is_handing_in r.act then l.packets + 1 else l.packets;
  records = l.records ++ load_given l r ∷ [];
  wire = l.wire ++ entry_loads r.made (made_loads t H l r);
}

-- *carried*, of a load: what the records and the wire of a history carry.
abbrev pub loads : TopologyState → List Full → Loads
loads t [] = record { packets = 0; records = []; wire = [] }
loads t (r ∷ H) = loads_after t H r (loads t H)
