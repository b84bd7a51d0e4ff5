-- What a word says: bytes, two hexadecimal digits of either case for each.
use Rattle.std.specs.Prelude.{ℕ, ◌%◌, ◌==◌, Bool, not, List, [], length, position, Option, Some, None, if◌then◌else◌}
use Rattle.std.specs.Char.{is_ascii_hexdigit}
use Rattle.std.specs.Option.{option_or}
use Rattle.std.specs.Result.{result_unwrap_or}
use Rattle.hex.specs.Hex.{decode_of}

-- no digit
abbrev pub is_other : ℕ → Bool
is_other byte = not (is_ascii_hexdigit byte)

-- the first byte that is no digit; else the end, where the digits are of an odd number; else the word is hexadecimal text
unfoldable pub bad_place : List ℕ → Option ℕ
bad_place word = option_or (position is_other word) (if length word % 2 == 1 then Some (length word) else None)

-- the bytes that hexadecimal text says
unfoldable pub bytes_said : List ℕ → List ℕ
bytes_said digits = result_unwrap_or (decode_of digits) []
