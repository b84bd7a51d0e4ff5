-- What keeps its packet by what a record means for a peer.
use Rattle.follow_writer.proofs.Words.{Bool, Effect, Ep, GivesUp, Hears, Holds, KeepsItsPacket, List, Nothing, Option, Queues, Tests, Touches, false, is_some, true, ℕ, ◌≡◌}

-- whatever it means, where there is a packet that came from somewhere
pub keeps_all : (x : Effect) (p : Option (List ℕ)) (o : Option Ep) → is_some p ≡ true → is_some o ≡ true → KeepsItsPacket x p o
keeps_all Nothing p o packet source = tt
keeps_all Touches p o packet source = tt
keeps_all Queues p o packet source = packet
keeps_all Hears p o packet source = tt
keeps_all Tests p o packet source = (packet, source)
keeps_all Holds p o packet source = (packet, source)
keeps_all GivesUp p o packet source = tt

-- it holds nothing
abbrev pub holds_nothing : Effect → Bool
holds_nothing Tests = false
holds_nothing Holds = false
holds_nothing _ = true

-- and so where there is a packet, from nowhere
pub keeps_queued : (x : Effect) (p : Option (List ℕ)) (o : Option Ep) → holds_nothing x ≡ true → is_some p ≡ true → KeepsItsPacket x p o
keeps_queued Nothing p o none packet = tt
keeps_queued Touches p o none packet = tt
keeps_queued Queues p o none packet = packet
keeps_queued Hears p o none packet = tt
keeps_queued Tests p o none packet = absurd (cc none)
keeps_queued Holds p o none packet = absurd (cc none)
keeps_queued GivesUp p o none packet = tt

-- it keeps no packet
abbrev pub keeps_none : Effect → Bool
keeps_none Queues = false
keeps_none x = holds_nothing x

-- and so where there is none
pub keeps_no_packet : (x : Effect) (p : Option (List ℕ)) (o : Option Ep) → keeps_none x ≡ true → KeepsItsPacket x p o
keeps_no_packet Nothing p o none = tt
keeps_no_packet Touches p o none = tt
keeps_no_packet Queues p o none = absurd (cc none)
keeps_no_packet Hears p o none = tt
keeps_no_packet Tests p o none = absurd (cc none)
keeps_no_packet Holds p o none = absurd (cc none)
keeps_no_packet GivesUp p o none = tt
