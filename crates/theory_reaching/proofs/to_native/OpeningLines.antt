-- The first lines of the table for packets to a native host, which don't want the client settled.
use Rattle.theory_reaching.proofs.Words.{Reach, Relayed, first_line, late_native_lines, opening_native_lines, skip, to_native_row}
use Rattle.theory_reaching.specs.declared.word.Reach.TheVariants as word

-- past them, neither of which says so
pub past_opening : (Q : Reach → Type 0) (a : Relayed) → Q word.Off → Q word.Moved → Q (first_line (late_native_lines a) word.Within6) → Q (to_native_row a)
past_opening Q a off moved rest = skip Q (opening_native_lines a) (late_native_lines a) word.Within6 (off, (moved, (moved, tt))) rest
