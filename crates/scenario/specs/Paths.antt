-- Where in a text a refusal is: the path of a key.
use Rattle.std.specs.Prelude.{ℕ, ◌&&◌, nat_le, if◌then◌else◌, List, [], ◌++◌, map, take, codes, decimal}
use Rattle.scenario.specs.declared.node_kind.NodeKind.{NodeKind}
use Rattle.scenario.specs.declared.place.Place.{Place}
use Rattle.scenario.specs.declared.place.Place.TheVariants as place
use Rattle.scenario.specs.declared.path.TheConstants.{KEY_SHOWN}
use Rattle.scenario.specs.NodeKinds.{list_key}

-- the byte `?`
abbrev pub question_mark : ℕ
question_mark = 63

-- a byte as a path shows it: one of the visible characters of ASCII, `!` to `~`, or `?` for another
abbrev pub shown_byte : ℕ → ℕ
shown_byte byte = if nat_le 33 byte && nat_le byte 126 then byte else question_mark

-- a key as a path shows it: its first 32 bytes
abbrev pub shown : List ℕ → List ℕ
shown key = map shown_byte (take KEY_SHOWN key)

-- the path of a table of a list, as `client[0]`
abbrev pub row_path : NodeKind → ℕ → List ℕ
row_path kind index = list_key kind ++ (codes "[" ++ (decimal index ++ codes "]"))

-- what stands before the keys of a table
abbrev pub path_begin : Place → List ℕ
path_begin place.Text = []
path_begin (place.Row kind index) = row_path kind index ++ codes "."

-- the path of a key, as `seed` or `client[0].nat`
unfoldable pub key_path : Place → List ℕ → List ℕ
key_path place key = path_begin place ++ shown key
