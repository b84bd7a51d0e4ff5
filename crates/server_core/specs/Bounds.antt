-- What bounds every answer of the server.
use Rattle.std.specs.Prelude.{◌≡◌, ◌≤◌, ◌+◌, ℕ, List, [], length, take, true, false, if◌then◌else◌, is_some, Option, Some, None}
use Rattle.td_base.specs.Ep.{server_ep}
use Rattle.td_base.specs.declared.endpoint.Ep.{Ep}
use Rattle.td_base.specs.declared.side.Side.{Side}
use Rattle.td_base.specs.declared.side.Side.TheVariants.{Primary, Secondary}
use Rattle.teredo_node.specs.Fate.{is_drop}
use Rattle.teredo_node.specs.Step.{Step}
use Rattle.server_core.specs.declared.server.ServerSettings.{ServerSettings}
use Rattle.server_core.specs.declared.server.TheConstants.{GROWTH_MAX}
use Rattle.server_core.specs.declared.reply.Answer.{Answer}
use Rattle.server_core.specs.declared.reply.Answer.TheVariants.{Drop, Send, Six}
use Rattle.server_core.specs.Rules.{IsPeer}
use Rattle.server_core.specs.Server.{server_row}

-- what is sent is little longer than x, and the packet that goes on lies in x
abbrev pub IsShort : Answer → List ℕ → Type 0
IsShort (Drop fate) x = Unit {0}
IsShort (Send fate side to len) x = len ≤ length x + GROWTH_MAX
IsShort (Six span) x = span.at + span.len ≤ length x

-- what is dropped has the fate of a drop, and what is sent hasn't
abbrev pub IsNamed : Answer → Type 0
IsNamed (Drop fate) = is_drop fate ≡ true
IsNamed (Send fate side to len) = is_drop fate ≡ false
IsNamed (Six span) = Unit {0}

-- what is sent goes to an endpoint that can be used, and isn't the server's own
abbrev pub GoesAway : ServerSettings → Answer → Type 0
GoesAway s (Drop fate) = Unit {0}
GoesAway s (Send fate side to len) = IsPeer s to
GoesAway s (Six span) = Unit {0}

-- a step has no output
abbrev pub IsSilent : Step → Type 0
IsSilent step = (step.sends ≡ []) × (step.six ≡ None)

-- the server's endpoint on a side
abbrev pub endpoint : ServerSettings → Side → Ep
endpoint s Primary = server_ep s.primary
endpoint s Secondary = server_ep s.secondary

-- what is sent, where it comes to the server itself, draws no output
abbrev pub EndsThere : ServerSettings → Answer → List ℕ → Type 0
EndsThere s (Drop fate) out = Unit {0}
EndsThere s (Send fate side to len) out = (at : Side) → IsSilent (server_row s at (endpoint s side) (take len out))
EndsThere s (Six span) out = Unit {0}

-- 1 where something is there, and else 0
abbrev pub count : {A : Type 0} → Option A → ℕ
count None = 0
count (Some a) = 1

-- how many outputs a step has
abbrev pub outputs : Step → ℕ
outputs step = length step.sends + count step.six

-- how many outputs a step has, and one more for a drop
abbrev pub outcomes : Step → ℕ
outcomes step = length step.sends + (if is_some step.six then 1 else 0) + (if is_drop step.fate then 1 else 0)
