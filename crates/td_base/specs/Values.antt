-- The number, the address or the endpoint that a text is.
use Rattle.std.specs.Prelude.{ℕ, ◌==◌, ◌&&◌, nat_le, nat_eq, Bool, if◌then◌else◌, List, [], ◌∷◌, decimal, Option, Some, None}
use Rattle.std.specs.List.{slice_split}
use Rattle.std.specs.Str.Parse.{digits_value}
use Rattle.std.specs.Cmp.Lexicographic.{pointwise}
use Rattle.td_base.specs.Options.{◌>>=◌}
use Rattle.td_base.specs.declared.ipv4.Ip4.{Ip4}
use Rattle.td_base.specs.declared.endpoint.Ep.{Ep}

-- the two texts have the same bytes
abbrev pub same_text : List ℕ → List ℕ → Bool
same_text = pointwise nat_eq

-- the parts of a text that is cut at each byte `mark`; the empty text has one empty part
abbrev pub parts_at : ℕ → List ℕ → List (List ℕ)
parts_at mark text = slice_split (λ byte. byte == mark) text

-- the bytes at which texts are cut
abbrev pub dot : ℕ
dot = 46

-- the byte of a colon
abbrev pub colon : ℕ
colon = 58

-- the number up to `most` whose decimal digits a text is, without sign and without leading zeros
unfoldable pub number_of : ℕ → List ℕ → Option ℕ
number_of most text =
    let n = digits_value 10 text in
    if nat_le n most && same_text text (decimal n) then Some n else None

-- the largest of an address's four numbers
abbrev pub part_most : ℕ
part_most = 255

-- the largest port
abbrev pub port_most : ℕ
port_most = 65535

-- the address of four numbers
abbrev pub ip4_of_parts : List (List ℕ) → Option Ip4
ip4_of_parts (a ∷ b ∷ c ∷ d ∷ []) = do
  a ← number_of part_most a
  b ← number_of part_most b
  c ← number_of part_most c
  d ← number_of part_most d
  Some (record { 0 = a ∷ b ∷ c ∷ d ∷ [] })
ip4_of_parts _ = None

-- the address that a text is: four numbers with dots between them
unfoldable pub ip4_of : List ℕ → Option Ip4
ip4_of text = ip4_of_parts (parts_at dot text)

-- the endpoint of an address and a port
abbrev pub ep_of_parts : List (List ℕ) → Option Ep
ep_of_parts (ip ∷ port ∷ []) = do
  ip ← ip4_of ip
  port ← number_of port_most port
  Some (record { ip = ip; port = port })
ep_of_parts _ = None

-- the endpoint that a text is: an address, a colon and a port
unfoldable pub ep_of : List ℕ → Option Ep
ep_of text = ep_of_parts (parts_at colon text)
