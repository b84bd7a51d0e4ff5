-- What a reader of the code answers, for the contracts of private functions.
use Rattle.std.specs.Prelude.{◌≡◌, ℕ, nat_le, if◌then◌else◌, List, length, drop, Result, Ok, Err}
use Rattle.events.specs.declared.event_fault.EventFault.{EventFault}
use Rattle.events.specs.declared.event_fault.EventFault.TheVariants as fault
use Rattle.td_base.specs.Values.{parts_at}
use Rattle.events.specs.Words.{space}
use Rattle.events.specs.EventText.{TextWords, no_word, placed}

-- The answer, seen by view, is what the definition gives, or memory ran out.
abbrev pub ReadsAs : {X Y : Type 0} → (X → Y) → Result X EventFault → Result Y ℕ → Type 0
ReadsAs view (Ok x) read = read ≡ Ok (view x)
ReadsAs view (Err (fault.At place)) read = read ≡ Err place
ReadsAs view (Err fault.NoMemory) read = Unit {0}

-- the words of a text from a place on; behind the last word's end none is left
unfoldable pub words_from : List ℕ → ℕ → TextWords
words_from text at = if nat_le at (length text) then placed at (parts_at space (drop at text)) else no_word (length text)
