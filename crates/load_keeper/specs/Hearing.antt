-- What a record says, by what its node keeps of the loads.
use Rattle.std.specs.Prelude.{ℕ, Bool, false, ◌||◌, if◌then◌else◌, List, [], ◌∷◌, ◌++◌, length, map, drop, filter, reverse, slice_get, Option, Some, None, option_and_then}
use Rattle.std.specs.List.{flat_map}
use Rattle.td_base.specs.declared.endpoint.Ep.{Ep}
use Rattle.td_base.specs.declared.ipv6.Ip6.{Ip6}
use Rattle.teredo_node.specs.declared.fate.Fate.{Fate}
use Rattle.teredo_node.specs.declared.fate.Fate.TheVariants as fate
use Rattle.topology.specs.declared.node.Node.{Node}
use Rattle.topology.specs.declared.node.Node.TheVariants.{Client as client, Relay as relay}
use Rattle.history.specs.declared.act.Act.{Act}
use Rattle.history.specs.declared.act.Act.TheVariants as act
use Rattle.history.specs.declared.mark.Mark.{Mark}
use Rattle.history.specs.declared.mark.Mark.TheVariants as mark
use Rattle.history.specs.declared.records.Record.{Record}
use Rattle.legal.specs.Past.{is_restart}
use Rattle.states.specs.Kept.{is_lower_ip6}
use Rattle.states.specs.Orders.{in_order}
use Rattle.loads.specs.declared.load.Load.{Load}
use Rattle.loads.specs.declared.load.Load.TheVariants.{Packet}
use Rattle.loads.specs.declared.saying.Saying.{Saying}
use Rattle.loads.specs.declared.way.Way.TheVariants.{Goes, Ends}
use Rattle.loads.specs.Loads.{answer_to, load_at, is_handing_in, releases_all}
use Rattle.loads.specs.Sayings.{saying, goes_by, arrives_if, way_by_fate, makes_reply, said_of_released, gives_up, is_changed_address, ends_holding, hands_over_held, is_same_source}
use Rattle.load_keeper.specs.declared.touch.Touch.{Touch}
use Rattle.load_keeper.specs.declared.held_load.HeldLoad.{HeldLoad}
use Rattle.load_keeper.specs.declared.effect.Effect.{Effect}
use Rattle.load_keeper.specs.declared.effect.Effect.TheVariants.{Nothing}
use Rattle.load_keeper.specs.Effects.{client_effect, relay_effect}
use Rattle.load_keeper.specs.Kept.{lists_peer, NodeKept, nothing_kept, loads_known_or_none, after_effect}

-- WHAT A RECORD IS GIVEN, AND WHAT GOES ON

-- the number of the entry that an act delivers
abbrev pub number_delivered : Act → Option ℕ
number_delivered (act.Deliver number) = Some number
number_delivered _ = None

-- the load that an act gives its record, where so many packets were handed in, and entries carry this
abbrev pub load_by_act : ℕ → List (Option Load) → Act → Option Load
load_by_act packets wire a = if is_handing_in a then Some (Packet packets) else option_and_then (load_at wire) (number_delivered a)

-- what is made besides of a load, by these fates
abbrev pub load_that_goes_on : Fate → Option Load → Option Load
load_that_goes_on fate.Sent l = l
load_that_goes_on fate.SentCone l = l
load_that_goes_on fate.SentSix l = l
load_that_goes_on fate.Forward l = l
load_that_goes_on fate.ForwardOrigin l = l
load_that_goes_on fate.Six l = l
load_that_goes_on fate.FromClient l = l
load_that_goes_on fate.Echoed l = answer_to l
load_that_goes_on _ l = None

-- what the entry of a mark carries, if there is one
abbrev pub entry_by_mark : Mark → Option Load → List (Option Load)
entry_by_mark (mark.Lost why dst len) l = []
entry_by_mark _ l = l ∷ []

-- what the entries of these marks carry, where their sends carry this
abbrev pub entries_by_marks : List Mark → List (Option Load) → List (Option Load)
entries_by_marks [] ls = []
entries_by_marks (m ∷ ms) ls = entry_by_mark m (load_at ls 0) ++ entries_by_marks ms (drop 1 ls)

-- WHAT IT SAYS

-- of the load that it was given, and of the reply to that
abbrev pub says_of_given : Fate → Option Load → Option Mark → (handed : Bool) → List Saying
says_of_given f l m handed = saying (way_by_fate f m handed) l ++ saying (goes_by m) (if makes_reply f then answer_to l else None)

-- of one that waited, and goes by this mark, if there is one
abbrev pub says_of_one : Option Mark → Option Load → List Saying
says_of_one None l = []
says_of_one (Some m) l = saying (Goes m) l

-- of what waited, where it ends
abbrev pub says_to_end : List (Option Load) → List Saying
says_to_end ls = flat_map (saying Ends) ls

-- of what was held, where what came from this endpoint is handed over now
abbrev pub says_of_held : Option Ep → List HeldLoad → List Saying
says_of_held late hs = flat_map (λ (h : HeldLoad). saying (arrives_if (is_same_source late h.from)) h.load) hs

-- the peers that are listed, the lowest address first
abbrev pub peers_in_order : List Touch → ℕ → List Ip6
peers_in_order ts m = in_order is_lower_ip6 (filter (λ (p : Ip6). lists_peer ts m p) (reverse (map (λ (t : Touch). t.who) ts)))

-- the peers that are dropped, where all are
abbrev pub peers_dropped : Bool → NodeKept → ℕ → List Ip6
peers_dropped drops s m = if drops then peers_in_order s.touches m else []

-- what is released to a peer, where something is
abbrev pub loads_released : Fate → NodeKept → ℕ → Ip6 → List (Option Load)
loads_released f s m who = if releases_all f then (loads_known_or_none s m who).waiting else []

-- of all that is dropped while it waits
abbrev pub says_of_dropped : (gives : Bool) → NodeKept → ℕ → Ip6 → List Ip6 → List Saying
says_of_dropped gives s m who dropped = if gives then says_to_end (loads_known_or_none s m who).waiting
    else flat_map (λ (p : Ip6). says_to_end (loads_known_or_none s m p).waiting) dropped

-- of all that is held and ends
abbrev pub says_of_ended : (ends : Bool) → Option Ep → NodeKept → ℕ → Ip6 → List Ip6 → List Saying
says_of_ended ends late s m who dropped = if ends then says_of_held late (loads_known_or_none s m who).held
    else flat_map (λ (p : Ip6). says_of_held late (loads_known_or_none s m p).held) dropped

-- where what is handed over came from, where something is
abbrev pub late_source : Fate → Option Ep → Option Ep
late_source f from = if hands_over_held f then from else None

-- all that a record says, by what its node keeps
abbrev pub says_by : Record → Option Load → Ip6 → Option Ep → NodeKept → (handed : Bool) → List Saying
says_by r l who from s handed =
    let m = r.moment.0 in
    let released = loads_released r.fate s m who in
    let dropped = peers_dropped (is_restart r.act || is_changed_address r.fate) s m in
    says_of_given r.fate l (slice_get r.marks (length released)) handed
    ++ (said_of_released r.marks released
    ++ (says_of_dropped (gives_up r.fate) s m who dropped ++ says_of_ended (ends_holding r.fate) (late_source r.fate from) s m who dropped))

-- WHAT ITS NODE KEEPS THEN

-- what a fate means for what a node keeps of its peers
abbrev pub effect_at : Option Node → Fate → Effect
effect_at (Some (client c)) f = client_effect f
effect_at (Some (relay r)) f = relay_effect f
effect_at _ f = Nothing

-- by this fate a node begins with its peers anew: a client whose address changed
abbrev pub begins_anew : Option Node → Fate → Bool
begins_anew (Some (client c)) f = is_changed_address f
begins_anew _ f = false

-- what a node keeps after something that means this for a peer, if there is one
abbrev pub after_effect_on : Effect → Option Ip6 → ℕ → Option Ep → Option Load → NodeKept → NodeKept
after_effect_on x None m from l s = s
after_effect_on x (Some who) m from l s = after_effect x who m from l s

-- what a node keeps after a record of its own
abbrev pub node_after : Option Node → Record → Option Ip6 → Option Ep → Option Load → NodeKept → NodeKept
node_after a r peer from l s = if is_restart r.act || begins_anew a r.fate then nothing_kept
    else after_effect_on (effect_at a r.fate) peer r.moment.0 from l s
