-- What a record does with each load that it concerns.
use Rattle.std.specs.Prelude.{ℕ, Bool, true, false, ◌&&◌, ◌||◌, if◌then◌else◌, is_some, List, [], ◌∷◌, ◌++◌, length, map, slice_get, Option, Some, None}
use Rattle.std.specs.List.{flat_map}
use Rattle.td_base.specs.declared.endpoint.Ep.{Ep}
use Rattle.td_base.specs.declared.ipv6.Ip6.{Ip6}
use Rattle.td_base.specs.Ep.{same_ep}
use Rattle.teredo_node.specs.declared.fate.Fate.{Fate}
use Rattle.teredo_node.specs.declared.fate.Fate.TheVariants as fate
use Rattle.teredo_node.specs.Journal.{Entry}
use Rattle.peer_list.specs.Mentions.{Mention}
use Rattle.client_rules.specs.Bearings.{source_of}
use Rattle.topology.specs.Rows.{TopologyState}
use Rattle.history.specs.declared.mark.Mark.{Mark}
use Rattle.history.specs.Full.{Full}
use Rattle.history.specs.Records.{marks_of}
use Rattle.legal.specs.Past.{is_restart}
use Rattle.states.specs.Kept.{listed_in_order}
use Rattle.loads.specs.declared.load.Load.{Load}
use Rattle.loads.specs.declared.saying.Saying.{Saying}
use Rattle.loads.specs.declared.way.Way.{Way}
use Rattle.loads.specs.declared.way.Way.TheVariants.{Goes, Waits, Held, Arrives, Ends}
use Rattle.loads.specs.Numbered.{waiting_records, HeldRecord, held_for}
use Rattle.loads.specs.Loads.{answer_to, Loads, load_at, load_given, entry_peer, mentions_at, released_records}

-- what is said of a load; of what carries nothing, nothing is said
abbrev pub saying : Way → Option Load → List Saying
saying w None = []
saying w (Some l) = record { load = l; way = w } ∷ []

-- WHAT IT WAS GIVEN

-- it goes by this send or entry, or ends where there is none
abbrev pub goes_by : Option Mark → Way
goes_by None = Ends
goes_by (Some m) = Goes m

-- the marks of a record's sends and entries, in order
abbrev pub marks_by : Full → List Mark
marks_by r = marks_of r.first r.made

-- it arrives where it was handed over, and else it ends
abbrev pub arrives_if : Bool → Way
arrives_if true = Arrives
arrives_if false = Ends

-- What becomes of the load that a record was given, by the record's fate: whether it goes on, waits (RFC 4380, sections 5.2.4 and
-- 5.4.1), is held (section 5.2.3, rule 6), or arrives. `mark` is the send or entry that may carry it, and `handed` says whether
-- the packet was handed to a host.
abbrev pub way_by_fate : Fate → Option Mark → (handed : Bool) → Way
way_by_fate fate.Sent mark handed = goes_by mark
way_by_fate fate.SentCone mark handed = goes_by mark
way_by_fate fate.SentSix mark handed = goes_by mark
way_by_fate fate.Forward mark handed = goes_by mark
way_by_fate fate.ForwardOrigin mark handed = goes_by mark
way_by_fate fate.Six mark handed = goes_by mark
way_by_fate fate.FromClient mark handed = goes_by mark
way_by_fate fate.Queued mark handed = Waits
way_by_fate fate.HeldTest mark handed = Held
way_by_fate fate.Held mark handed = Held
way_by_fate fate.Kept mark handed = Arrives
way_by_fate fate.Echoed mark handed = Arrives
way_by_fate _ mark handed = arrives_if handed

-- By this fate a native host makes a reply.
abbrev pub makes_reply : Fate → Bool
makes_reply fate.Echoed = true
makes_reply _ = false

-- what a record says of the load that it was given, and of the reply to that
abbrev pub said_of_given : Full → Option Load → Option Mark → List Saying
said_of_given r l mark = saying (way_by_fate r.fate mark (is_some r.handed)) l
    ++ (if makes_reply r.fate then saying (goes_by mark) (answer_to l) else [])

-- WHAT WAITED

-- of what waited: that each of these loads goes by a mark of its own, in order
abbrev pub said_of_released : List Mark → List (Option Load) → List Saying
said_of_released marks [] = []
said_of_released [] (l ∷ ls) = []
said_of_released (m ∷ ms) (l ∷ ls) = saying (Goes m) l ++ said_of_released ms ls

-- of what is dropped: that the packets of these records end
abbrev pub said_to_end : Loads → List ℕ → List Saying
said_to_end l numbers = flat_map (λ (i : ℕ). saying Ends (load_at l.records i)) numbers

-- By this fate the packets that wait for the record's peer are dropped (RFC 4380, section 5.2.6).
abbrev pub gives_up : Fate → Bool
gives_up fate.GiveUp = true
gives_up _ = false

-- By this fate a client has another address (RFC 4380, section 5.2.5).
abbrev pub is_changed_address : Fate → Bool
is_changed_address fate.Changed = true
is_changed_address _ = false

-- By this record all peers are dropped that its node lists: the node starts anew, or its address changed.
abbrev pub drops_peers : Full → Bool
drops_peers r = is_restart r.act || is_changed_address r.fate

-- the peers that a record drops, the lowest address first
abbrev pub dropped_peers : List Mention → Full → List Ip6
dropped_peers j r = if drops_peers r then listed_in_order j r.moment else []

-- the numbers of the records whose packets wait, and are dropped by a record
abbrev pub dropped_records : List Mention → Full → List ℕ
dropped_records j r = if gives_up r.fate then waiting_records j r.moment (entry_peer r.entry) else flat_map (waiting_records j r.moment) (dropped_peers j r)

-- WHAT WAS HELD

-- By these fates what is held of the record's peer ends, one way or the other: the peer was heard (RFC 4380, section 5.2.3).
abbrev pub ends_holding : Fate → Bool
ends_holding fate.Rule1 = true
ends_holding fate.Rule1Bubble = true
ends_holding fate.Rule2 = true
ends_holding _ = false

-- the packets that are held and end by a record, in order
abbrev pub ended_records : List Mention → Full → List HeldRecord
ended_records j r = if ends_holding r.fate then held_for j r.moment (entry_peer r.entry) else flat_map (held_for j r.moment) (dropped_peers j r)

-- where the datagram of an entry came from, if it has one
abbrev pub source_of_entry : Option Entry → Option Ep
source_of_entry None = None
source_of_entry (Some e) = source_of e.input

-- The datagram came from this endpoint.
abbrev pub is_same_source : Option Ep → Ep → Bool
is_same_source None ep = false
is_same_source (Some from) ep = same_ep ep from

-- By this fate packets that were held are handed over: rule 2 (RFC 4380, section 5.2.3).
abbrev pub hands_over_held : Fate → Bool
hands_over_held fate.Rule2 = true
hands_over_held _ = false

-- A packet that was held is handed over now: by rule 2, where it came from where the record's datagram did.
abbrev pub is_late : Full → HeldRecord → Bool
is_late r h = hands_over_held r.fate && is_same_source (source_of_entry r.entry) h.from

-- of what was held: that each of these packets arrives, where it is handed over now, or ends
abbrev pub said_of_ended : Loads → Full → List HeldRecord → List Saying
said_of_ended l r hs = flat_map (λ (h : HeldRecord). saying (arrives_if (is_late r h)) (load_at l.records h.number)) hs

-- ALL OF A RECORD

-- all that a record says, where it releases the packets of the records of these numbers
abbrev pub said_with : List Mention → Loads → Full → List ℕ → List Saying
said_with j l r numbers = said_of_given r (load_given l r) (slice_get (marks_by r) (length numbers))
    ++ (said_of_released (marks_by r) (map (load_at l.records) numbers)
    ++ (said_to_end l (dropped_records j r) ++ said_of_ended l r (ended_records j r)))

-- *said*, of a load: what the record after H does with each load that it concerns. `l` is what was carried before.
abbrev pub sayings_of : TopologyState → List Full → Loads → Full → List Saying
sayings_of t H l r = said_with (mentions_at t H r.node) l r (released_records t H r)
