-- What a world keeps of the wire, and how something comes onto it.
use Rattle.std.specs.Prelude.{◌≡◌, ◌≢◌, ◌≤◌, ◌<◌, ◌+◌, ℕ, Bool, true, false, List, [], ◌++◌, length, take, filter_map, replicate, get_or, Result, Ok, Err}
use Rattle.std.specs.List.{AllByRecursion}
use Rattle.td_base.specs.declared.datagram.TheConstants.{DATAGRAM_MAX}
use Rattle.history.specs.declared.mark.Mark.{Mark}
use Rattle.history.specs.declared.turn.Stop.{Stop}
use Rattle.history.specs.declared.turn.Stop.TheVariants.{WireFull, NoMemory}
use Rattle.history.specs.Full.{Item, Made, item_in, bytes_of}
use Rattle.history.specs.Records.{marks_of}
use Rattle.world.specs.declared.wire.TheConstants.{ENTRIES_MAX}

-- the entries in order, and for each whether it was delivered
pub record WireState : Type 0 where
  pub items : List Item
  pub done : List Bool

-- a wire without entries
abbrev pub no_wire : WireState
no_wire = record { items = []; done = [] }

-- with these entries behind those that were there, none of them delivered
abbrev pub with_items : WireState → List Item → WireState
with_items w xs = record { items = w.items ++ xs; done = w.done ++ replicate (length xs) false }

-- the first entries alone
abbrev pub front_of : ℕ → WireState → WireState
front_of len w = record { items = take len w.items; done = take len w.done }

-- the bytes of an entry are as few as an event or a node may give
abbrev pub IsShortEntry : Item → Type 0
IsShortEntry x = length (bytes_of x) ≤ DATAGRAM_MAX

-- a wire that isn't too long, whose entries before `low` were all delivered
abbrev pub IsWire : List Item → List Bool → ℕ → Type 0
IsWire items done low = (length done ≡ length items) × (length items ≤ ENTRIES_MAX) × AllByRecursion IsShortEntry items
    × (low ≤ length items) × ((i : ℕ) → i < low → get_or done i false ≡ true)

-- WHAT COMES ONTO IT

-- those of what was made that weren't lost
abbrev pub entries_in : List Made → List Item
entries_in made = filter_map item_in made

-- they came onto the wire in order, and a mark for each of what was made behind those that were there
pub record ComesOnto (old new : WireState) (before said : List Mark) (made : List Made) : Type 0 where
  pub wire : new ≡ with_items old (entries_in made)
  pub marks : said ≡ before ++ marks_of (length old.items) made

-- they did; or the wire has no room for all of them; or memory was wanting, for something
abbrev pub Puts : (old new : WireState) (before said : List Mark) (made : List Made) → Result (Unit {0}) Stop → Type 0
Puts old new before said made (Ok done) = ComesOnto old new before said made
Puts old new before said made (Err WireFull) = ENTRIES_MAX < length old.items + length (entries_in made)
Puts old new before said made (Err NoMemory) = made ≢ []

-- a wire that begins as it was
abbrev pub Extends : WireState → WireState → Type 0
Extends old new = (more : List Item) × (new ≡ with_items old more)
