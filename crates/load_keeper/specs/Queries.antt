-- Where a load waits and where it is held, by what nodes keep.
use Rattle.std.specs.Prelude.{ℕ, Bool, ◌&&◌, if◌then◌else◌, not, List, Option}
use Rattle.std.specs.List.{list_any, position_from}
use Rattle.loads.specs.declared.load.Load.{Load}
use Rattle.loads.specs.Ends.{is_load}
use Rattle.load_keeper.specs.declared.kept_load.KeptLoad.{KeptLoad}
use Rattle.load_keeper.specs.declared.node_loads.NodeLoads.{NodeLoads}
use Rattle.load_keeper.specs.Kept.{lists_peer, is_held_from, NodeKept, node_kept}

-- It is held, or it waits, as is asked for, and it carries the load.
abbrev pub carries_load : (held : Bool) → Load → KeptLoad → Bool
carries_load held l k = is_load l k.load && (if held then is_held_from k.from else not (is_held_from k.from))

-- Something of a peer that is listed at m is held, or waits, and carries the load.
abbrev pub keeps_load : (held : Bool) → Load → ℕ → NodeKept → Bool
keeps_load held l m s = list_any (λ (k : KeptLoad). carries_load held l k && lists_peer s.touches m k.who) s.kept

-- the number of the first of these nodes that keeps it
abbrev pub keeping_node : (held : Bool) → Load → ℕ → List NodeLoads → Option ℕ
keeping_node held l m ns = position_from (λ (s : NodeLoads). keeps_load held l m (node_kept s)) 0 ns
