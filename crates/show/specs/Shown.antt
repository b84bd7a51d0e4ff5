-- What stands on the page of a word, apart from how it is found.
use Rattle.std.specs.Prelude.{◌≡◌, ◌<◌, ◌⊎◌, ℕ, ◌%◌, false, List, length, take, slice_index, Ok}
use Rattle.std.specs.Char.{is_ascii_hexdigit}
use Rattle.std.specs.List.{AllPass}
use Rattle.hex.specs.Hex.{decode_of}
use Rattle.bubble.specs.declared.fault.PayloadFault.{PayloadFault}
use Rattle.bubble.specs.Payloads.{Value, PayloadBytes, IsFirstPayloadFault}
use Rattle.show.specs.Lines.{payload_lines}
use Rattle.show.specs.Faults.{hex_fault_line, fault_line}

-- the word is hexadecimal text of some bytes, they spell a payload, and its lines stand there
pub record ShowsPayload (word page : List ℕ) : Type 0 where
  pub bytes : List ℕ
  pub payload : Value
  pub said : decode_of word ≡ Ok bytes
  pub spelled : PayloadBytes payload bytes
  pub lines : page ≡ payload_lines bytes payload

-- digits go so far; there stands a byte that is none, or the word ends with an odd number of them
pub record IsBadPlace (word : List ℕ) (place : ℕ) : Type 0 where
  pub digits : AllPass is_ascii_hexdigit (take place word)
  pub other : ((place < length word) × (is_ascii_hexdigit (slice_index word place) ≡ false)) ⊎ ((place ≡ length word) × (length word % 2 ≡ 1))

-- the word is no hexadecimal text, and where is what stands there
pub record ShowsNoText (word page : List ℕ) : Type 0 where
  pub place : ℕ
  pub bad : IsBadPlace word place
  pub line : page ≡ hex_fault_line place

-- the word is hexadecimal text of some bytes, and their first fault stands there
pub record ShowsFault (word page : List ℕ) : Type 0 where
  pub bytes : List ℕ
  pub fault : PayloadFault
  pub said : decode_of word ≡ Ok bytes
  pub first : IsFirstPayloadFault fault bytes
  pub line : page ≡ fault_line fault

-- the word says no payload, and its first fault is what stands there
abbrev pub ShowsNoPayload : (word page : List ℕ) → Type 0
ShowsNoPayload word page = ShowsNoText word page ⊎ ShowsFault word page
