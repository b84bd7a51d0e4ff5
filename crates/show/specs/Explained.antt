-- What `show` prints of a word.
use Rattle.std.specs.Prelude.{ℕ, List, Option, Some, None, Result, Ok, Err}
use Rattle.bubble.specs.declared.fault.PayloadFault.{PayloadFault}
use Rattle.bubble.specs.Payloads.{Value, payload_at}
use Rattle.show.specs.Words.{bad_place, bytes_said}
use Rattle.show.specs.Lines.{payload_lines}
use Rattle.show.specs.Faults.{hex_fault_line, fault_line}

-- the lines of the payload that x spells, or the line of the fault
abbrev pub payload_text : List ℕ → Result Value PayloadFault → Result (List ℕ) (List ℕ)
payload_text x (Ok v) = Ok (payload_lines x v)
payload_text x (Err f) = Err (fault_line f)

-- what bytes are
abbrev pub bytes_text : List ℕ → Result (List ℕ) (List ℕ)
bytes_text x = payload_text x (payload_at x)

-- what a word is, by the place where it isn't hexadecimal text
abbrev pub word_text : List ℕ → Option ℕ → Result (List ℕ) (List ℕ)
word_text word None = bytes_text (bytes_said word)
word_text word (Some place) = Err (hex_fault_line place)

-- the lines of the payload that a word says, or the line of its first fault
unfoldable pub explained : List ℕ → Result (List ℕ) (List ℕ)
explained word = word_text word (bad_place word)

-- what stands on the page
abbrev pub text_of : Result (List ℕ) (List ℕ) → List ℕ
text_of (Ok lines) = lines
text_of (Err line) = line
