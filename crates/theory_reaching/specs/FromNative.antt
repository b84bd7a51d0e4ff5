-- From a host of the IPv6 Internet to a client: the word is that of the first line whose condition holds (RFC 4380, sections
-- 5.2.3, 5.2.9 and 5.4).
use Rattle.std.specs.Prelude.{◌&&◌, ◌||◌, not, Bool, List, [], ◌∷◌}
use Rattle.teredo_node.specs.Rows.{first_line}
use Rattle.theory_reaching.specs.declared.word.Reach.{Reach}
use Rattle.theory_reaching.specs.declared.word.Reach.TheVariants as word
use Rattle.theory_reaching.specs.ThroughRelay.{Relayed}

-- the lines of the table for packets from a native host, in order
abbrev pub from_native_lines : Relayed → List (Bool × Reach)
from_native_lines a =
    (not a.on, word.Away)
    ∷ (not a.settled, word.Lost)
    ∷ (a.trusts && not a.let_in, word.Stale)
    ∷ (a.trusts && a.trusted, word.Within2)
    ∷ (a.fresh && not a.trusted, word.Stale)
    ∷ ((not a.trusted && a.barred) || (a.asks && a.bubble_barred), word.Barred)
    ∷ (not a.room || ((not a.trusted && a.holds_most) || (a.asks && not a.room_for_both)), word.Full)
    ∷ (a.trusted && a.asks, word.Within5)
    ∷ (a.trusted, word.Within2)
    ∷ (a.asks, word.Within9)
    ∷ []

-- the word on a packet from a native host
abbrev pub from_native_row : Relayed → Reach
from_native_row a = first_line (from_native_lines a) word.Within6
