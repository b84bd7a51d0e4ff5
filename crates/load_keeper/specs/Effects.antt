-- What a fate means for what waits for a peer, and for what is held of it.
use Rattle.teredo_node.specs.declared.fate.Fate.{Fate}
use Rattle.teredo_node.specs.declared.fate.Fate.TheVariants as fate
use Rattle.load_keeper.specs.declared.effect.Effect.{Effect}
use Rattle.load_keeper.specs.declared.effect.Effect.TheVariants.{Nothing, Touches, Queues, Hears, Tests, Holds, GivesUp}

-- what a client's fate means (RFC 4380, section 5.2)
abbrev pub client_effect : Fate → Effect
client_effect fate.Sent = Touches
client_effect fate.Queued = Queues
client_effect fate.Indirect = Touches
client_effect fate.Rule1 = Hears
client_effect fate.Rule1Bubble = Hears
client_effect fate.Rule2 = Hears
client_effect fate.Rule3 = Hears
client_effect fate.Rule3Bubble = Hears
client_effect fate.HeldTest = Tests
client_effect fate.SuspiciousTest = Touches
client_effect fate.Held = Holds
client_effect fate.Bubbles = Touches
client_effect fate.Test = Touches
client_effect fate.GiveUp = GivesUp
client_effect _ = Nothing

-- what a relay's fate means (RFC 4380, section 5.4)
abbrev pub relay_effect : Fate → Effect
relay_effect fate.Sent = Touches
relay_effect fate.SentCone = Touches
relay_effect fate.Queued = Queues
relay_effect fate.FromClient = Hears
relay_effect fate.FromClientBubble = Hears
relay_effect fate.Unserved = Hears
relay_effect fate.Bubbles = Touches
relay_effect fate.GiveUp = GivesUp
relay_effect _ = Nothing
