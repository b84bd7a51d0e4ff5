-- Where each packet is after a history.
use Rattle.std.specs.Prelude.{ℕ, ◌+◌, ◌==◌, Bool, true, false, not, ◌&&◌, if◌then◌else◌, List, [], ◌∷◌, ◌++◌, length, map, reverse, filter, Option, Some, None, option_map}
use Rattle.std.specs.List.{list_any}
use Rattle.std.specs.Option.{option_or}
use Rattle.td_base.specs.declared.ipv6.Ip6.{Ip6}
use Rattle.peer_list.specs.Listed.{listed}
use Rattle.peer_list.specs.Mentions.{Mention}
use Rattle.topology.specs.Rows.{TopologyState}
use Rattle.topology.specs.declared.node.Node.{Node}
use Rattle.topology.specs.Topology.{nodes}
use Rattle.history.specs.Full.{Full}
use Rattle.legal.specs.Past.{now, was_delivered}
use Rattle.loads.specs.declared.load.Load.{Load}
use Rattle.loads.specs.declared.load.Load.TheVariants.{Packet, ReplyTo}
use Rattle.loads.specs.declared.saying.Saying.{Saying}
use Rattle.loads.specs.declared.way.Way.{Way}
use Rattle.loads.specs.declared.way.Way.TheVariants.{Arrives}
use Rattle.loads.specs.declared.end.End.{End}
use Rattle.loads.specs.declared.end.End.TheVariants.{Arrived, WaitsAt, HeldAt, OnWire, Lost}
use Rattle.loads.specs.Numbered.{numbered_mentions, waiting_records, HeldRecord, held_for}
use Rattle.loads.specs.Loads.{Loads, load_at, is_handing_in, loads}
use Rattle.loads.specs.Sayings.{sayings_of}

-- Both are the same load.
abbrev pub same_load : Load → Load → Bool
same_load (Packet k) (Packet i) = k == i
same_load (ReplyTo k) (ReplyTo i) = k == i
same_load _ _ = false

-- This is that load.
abbrev pub is_load : Load → Option Load → Bool
is_load l None = false
is_load l (Some k) = same_load l k

-- WHAT RECORDS SAID

-- a saying, with its record and the number of that
pub record NumberedSaying : Type 0 where
  pub number : ℕ
  pub by : Full
  pub saying : Saying

-- a saying of record r, whose number is i
abbrev pub saying_by : ℕ → Full → Saying → NumberedSaying
saying_by i r s = record { number = i; by = r; saying = s }

-- all that the records of a history said of loads, in order
abbrev pub all_sayings : TopologyState → List Full → List NumberedSaying
all_sayings t [] = []
all_sayings t (r ∷ H) = all_sayings t H ++ map (saying_by (length H) r) (sayings_of t H (loads t H) r)

-- The saying is of this load.
abbrev pub is_said_of : Load → NumberedSaying → Bool
is_said_of l s = same_load l s.saying.load

-- By this it arrives.
abbrev pub is_arrival : Way → Bool
is_arrival Arrives = true
is_arrival _ = false

-- By this saying the load arrives.
abbrev pub is_arrival_of : Load → NumberedSaying → Bool
is_arrival_of l s = is_said_of l s && is_arrival s.saying.way

-- the number of the record that said the first of these
abbrev pub first_number : List NumberedSaying → Option ℕ
first_number [] = None
first_number (s ∷ more) = Some s.number

-- the number of the record that said the last of these
abbrev pub last_number_of : List NumberedSaying → Option ℕ
last_number_of ss = first_number (reverse ss)

-- WHO KEEPS IT

-- The packet of record i carries this load.
abbrev pub carries : Loads → Load → ℕ → Bool
carries ls l i = is_load l (load_at ls.records i)

-- A packet with this load waits for a peer that is listed at m, by these mentions.
abbrev pub waits_among : Loads → Load → List Mention → ℕ → Bool
waits_among ls l j m = list_any (λ (p : Ip6). list_any (carries ls l) (waiting_records j m p)) (listed j m)

-- A packet with this load is held of a peer that is listed at m, by these mentions.
abbrev pub is_held_among : Loads → Load → List Mention → ℕ → Bool
is_held_among ls l j m = list_any (λ (p : Ip6). list_any (λ (h : HeldRecord). carries ls l h.number) (held_for j m p)) (listed j m)

-- the number of the first node that passes, of these, which are numbered from n on
abbrev pub first_node : (ℕ → Node → Bool) → ℕ → List Node → Option ℕ
first_node test n [] = None
first_node test n (a ∷ rest) = if test n a then Some n else first_node test (n + 1) rest

-- the first node at which the load waits after a history
abbrev pub waiting_node : TopologyState → List Full → Loads → Load → Option ℕ
waiting_node t H ls l = first_node (λ (n : ℕ) (a : Node). waits_among ls l (numbered_mentions H n a) (now H)) 0 (nodes t)

-- the first node that holds it after a history
abbrev pub holding_node : TopologyState → List Full → Loads → Load → Option ℕ
holding_node t H ls l = first_node (λ (n : ℕ) (a : Node). is_held_among ls l (numbered_mentions H n a) (now H)) 0 (nodes t)

-- ON THE WIRE

-- of these entries, which are numbered from i on, the first that carries the load and was never delivered
abbrev pub open_entry : List Full → Load → ℕ → List (Option Load) → Option ℕ
open_entry H l i [] = None
open_entry H l i (x ∷ xs) = if is_load l x && not (was_delivered i H) then Some i else open_entry H l (i + 1) xs

-- THE END

-- *end*, of a load: where it is after a history, if anything carried it, by the first of these that holds. `ls` is what was carried, and `ts` what was said.
abbrev pub end_of : TopologyState → List Full → Loads → List NumberedSaying → Load → Option End
end_of t H ls ts l = option_or (option_map Arrived (first_number (filter (is_arrival_of l) ts)))
    (option_or (option_map WaitsAt (waiting_node t H ls l))
    (option_or (option_map HeldAt (holding_node t H ls l))
    (option_or (option_map OnWire (open_entry H l 0 ls.wire))
    (option_map Lost (last_number_of (filter (is_said_of l) ts))))))

-- THE PACKETS

-- a packet that was handed in: its number, that of the record, and the node
pub record NumberedPacket : Type 0 where
  pub number : ℕ
  pub record_number : ℕ
  pub node : Option ℕ

-- the packet that a record hands in, if it does
abbrev pub handed_in_by : (hands : Bool) → ℕ → ℕ → Full → List NumberedPacket
handed_in_by true number i r = record { number = number; record_number = i; node = r.node } ∷ []
handed_in_by false number i r = []

-- all packets that were handed in during a history, in order
abbrev pub handed_in : List Full → List NumberedPacket
handed_in [] = []
handed_in (r ∷ H) = handed_in H ++ handed_in_by (is_handing_in r.act) (length (handed_in H)) (length H) r

-- a packet, where it is, and where its reply is, if something carried one
pub record Whereabouts : Type 0 where
  pub packet_in : NumberedPacket
  pub is_at : Option End
  pub reply_is_at : Option End

-- where each packet of a history is, in order
abbrev pub whereabouts : TopologyState → List Full → Loads → List NumberedSaying → List Whereabouts
whereabouts t H ls ts =
    map (λ (p : NumberedPacket). record { packet_in = p; is_at = end_of t H ls ts (Packet p.number); reply_is_at = end_of t H ls ts (ReplyTo p.number) }) (handed_in H)
