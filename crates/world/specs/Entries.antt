-- What is kept of the entries of a wire, whose bytes stand one after another.
use Rattle.std.specs.Prelude.{◌≤◌, ◌+◌, ℕ, List, length}
use Rattle.td_base.specs.declared.span.Span.{Span}
use Rattle.teredo_node.specs.Step.{part}
use Rattle.history.specs.Full.{Item, udp, six}
use Rattle.world.specs.declared.entries.Entry.{Entry}
use Rattle.world.specs.declared.entries.Entry.TheVariants.{Udp, Six}

-- the entry that is kept, these being the bytes of all
abbrev pub item_at : List ℕ → Entry → Item
item_at all (Udp src dst span) = udp src dst (part all span)
item_at all (Six relay span) = six relay (part all span)

-- where the bytes of an entry stand
abbrev pub span_of : Entry → Span
span_of (Udp src dst span) = span
span_of (Six relay span) = span

-- they stand among the first n
abbrev pub IsInside : ℕ → Entry → Type 0
IsInside n e = (span_of e).at + (span_of e).len ≤ n

-- what is kept of an entry whose bytes stand at a place
abbrev pub kept_entry : Item → ℕ → Entry
kept_entry (udp src dst bytes) at = Udp src dst (record { at = at; len = length bytes })
kept_entry (six relay bytes) at = Six relay (record { at = at; len = length bytes })
