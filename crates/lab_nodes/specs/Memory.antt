-- Where a node may want memory.
use Rattle.std.specs.Prelude.{Bool, true, false}
use Rattle.teredo_node.specs.declared.fate.Fate.{Fate}
use Rattle.teredo_node.specs.declared.fate.Fate.TheVariants as fate

-- at these fates of a client or relay a packet waits or is held, or a peer is listed, and nothing need be sent
abbrev pub takes_memory : Fate → Bool
takes_memory fate.Queued = true
takes_memory fate.Rule3 = true
takes_memory fate.Rule3Bubble = true
takes_memory fate.Held = true
takes_memory _ = false
