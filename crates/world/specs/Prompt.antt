-- What prompts a node, and what it is given by it.
use Rattle.std.specs.Prelude.{ℕ, ◌<◌, ◌≤◌, Bool, true, List, length, set, slice_get, Option, Some, None}
use Rattle.td_base.specs.declared.endpoint.Ep.{Ep}
use Rattle.td_base.specs.declared.datagram.TheConstants.{DATAGRAM_MAX}
use Rattle.teredo_node.specs.Journal.{Input, given, ticked}
use Rattle.history.specs.Full.{Item}
use Rattle.legal.specs.Next.{no_ep, dst_of, input_of}
use Rattle.world.specs.declared.prompt.Prompt.{Prompt}
use Rattle.world.specs.declared.prompt.Prompt.TheVariants.{Entry, Packet, Tick}

-- the entry that is delivered
abbrev pub delivered_by : Prompt → Option ℕ
delivered_by (Entry number) = Some number
delivered_by _ = None

-- what a node is given of an entry, if there is one
abbrev pub input_at : Option Item → Input
input_at None = ticked
input_at (Some x) = input_of x

-- the destination of an entry, if there is one
abbrev pub dst_at : Option Item → Ep
dst_at None = no_ep
dst_at (Some x) = dst_of x

-- what comes, where these entries are on the wire
abbrev pub input_by : List Item → Prompt → Input
input_by items (Entry number) = input_at (slice_get items number)
input_by items (Packet bytes) = given bytes.now
input_by items Tick = ticked

-- the endpoint that it was sent to
abbrev pub dst_by : List Item → Prompt → Ep
dst_by items (Entry number) = dst_at (slice_get items number)
dst_by items _ = no_ep

-- the entry is there, with what is known of it, and a packet is as short as a node may give
abbrev pub IsPrompt : List Item → List Bool → Prompt → Type 0
IsPrompt items done (Entry number) = (number < length items) × (number < length done)
IsPrompt items done (Packet bytes) = length bytes.now ≤ DATAGRAM_MAX
IsPrompt items done Tick = Unit {0}

-- what was delivered, with that entry
abbrev pub done_by : Prompt → List Bool → List Bool
done_by (Entry number) done = set done number true
done_by _ done = done
