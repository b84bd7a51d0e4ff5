-- Which texts are names of nodes.
use Rattle.std.specs.Prelude.{ℕ, ◌==◌, ◌&&◌, ◌||◌, nat_le, Bool, false, List, [], ◌∷◌, length}
use Rattle.std.specs.List.{list_all}
use Rattle.std.specs.Char.{is_ascii_lowercase, is_ascii_digit}
use Rattle.topology.specs.declared.node_name.TheConstants.{NAME_LEN}

-- the byte `_`
abbrev pub underscore : ℕ
underscore = 95

-- a letter, a digit or an underscore
abbrev pub is_name_byte : ℕ → Bool
is_name_byte byte = is_ascii_lowercase byte || is_ascii_digit byte || (byte == underscore)

-- the first byte is a letter
abbrev pub begins_with_letter : List ℕ → Bool
begins_with_letter [] = false
begins_with_letter (byte ∷ more) = is_ascii_lowercase byte

-- 1 to 16 of the letters a to z, the digits and the underscore, of which the first is a letter
unfoldable pub is_name : List ℕ → Bool
is_name text = begins_with_letter text && list_all is_name_byte text && nat_le (length text) NAME_LEN
