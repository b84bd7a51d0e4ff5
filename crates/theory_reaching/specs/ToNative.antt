-- From a client to a host of the IPv6 Internet: the word is that of the first line whose condition holds (RFC 4380, sections
-- 5.2.4, 5.2.9 and 5.4).
use Rattle.std.specs.Prelude.{◌&&◌, ◌||◌, ◌++◌, not, Bool, List, [], ◌∷◌}
use Rattle.teredo_node.specs.Rows.{first_line}
use Rattle.theory_reaching.specs.declared.word.Reach.{Reach}
use Rattle.theory_reaching.specs.declared.word.Reach.TheVariants as word
use Rattle.theory_reaching.specs.ThroughRelay.{Relayed}

-- what doesn't want the client settled: a packet that goes at once to the relay, or draws a test, and whose client doesn't speak to where
-- that goes
abbrev pub opening_native_lines : Relayed → List (Bool × Reach)
opening_native_lines a =
    (not a.on, word.Off)
    ∷ (a.fresh && (a.trusted && not a.speaks), word.Moved)
    ∷ (not a.fresh && not a.speaks_server, word.Moved)
    ∷ []

-- and what does
abbrev pub late_native_lines : Relayed → List (Bool × Reach)
late_native_lines a =
    (not a.settled, word.Lost)
    ∷ (a.fresh && (a.trusted && not a.listed), word.Stale)
    ∷ (a.fresh && (a.trusted && not a.relay_keeps), word.Within2)
    ∷ (a.fresh, word.Known)
    ∷ (a.trusts && not a.let_in, word.Stale)
    ∷ (a.barred || (a.asks && a.bubble_barred), word.Barred)
    ∷ (not a.room || (a.asks && not a.room_for_both), word.Full)
    ∷ (a.asks, word.Within9)
    ∷ []

-- the lines of the table for packets to a native host, in order
abbrev pub to_native_lines : Relayed → List (Bool × Reach)
to_native_lines a = opening_native_lines a ++ late_native_lines a

-- the word on a packet to a native host
abbrev pub to_native_row : Relayed → Reach
to_native_row a = first_line (to_native_lines a) word.Within6
