-- What one word of a text says beside numbers and addresses: some bytes.
use Rattle.std.specs.Prelude.{ℕ, ◌&&◌, nat_le, if◌then◌else◌, List, [], length, codes, Option, Some, None}
use Rattle.std.specs.Result.{result_ok}
use Rattle.hex.specs.Hex.{decode_of}
use Rattle.td_base.specs.Options.{◌>>=◌}
use Rattle.td_base.specs.Values.{same_text}

-- the byte between words
abbrev pub space : ℕ
space = 32

-- the bytes, where there are some and not too many
abbrev pub few_bytes : ℕ → List ℕ → Option (List ℕ)
few_bytes most bytes = if nat_le 1 (length bytes) && nat_le (length bytes) most then Some bytes else None

-- one byte or more, up to `most`, each by two hexadecimal digits in either case
abbrev pub hex_of : ℕ → List ℕ → Option (List ℕ)
hex_of most text = result_ok (decode_of text) >>= few_bytes most

-- the bytes that a word says: none by `-`, or else some
unfoldable pub bytes_spelled : ℕ → List ℕ → Option (List ℕ)
bytes_spelled most text = if same_text text (codes "-") then Some [] else hex_of most text
