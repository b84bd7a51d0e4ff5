-- The name that a text is.
use Rattle.std.specs.Prelude.{◌≡◌, ℕ, ◌-◌, ◌≤◌, List, ◌++◌, length, take, replicate}
use Rattle.std.proofs.Common.{refl, sym, ap, arith}
use Rattle.std.proofs.lemmas.List.{length-append, length-replicate, length-take, take_at}
use Rattle.topology.specs.declared.node_name.Name.{Name}
use Rattle.topology.specs.declared.node_name.TheConstants.{NAME_LEN}

-- the bytes of a name: those of its text, and zeros
abbrev pub padded : List ℕ → List ℕ
padded front = front ++ replicate (NAME_LEN - length front) 0

-- a text that is filled up to the length of a name has that length
pub length-padded : (front : List ℕ) → length front ≤ NAME_LEN → length (padded front) ≡ NAME_LEN
length-padded front short = omega (arith, length-append front (replicate (NAME_LEN - length front) 0), length-replicate {A = ℕ} (NAME_LEN - length front) 0)

-- a text that is filled up begins with itself, and ends with zeros
pub padded-front : (front : List ℕ) → padded front ≡ take (length front) (padded front) ++ replicate (NAME_LEN - length front) 0
padded-front front = ap (λ (xs : List ℕ). xs
    ++ replicate (NAME_LEN - length front) 0) (sym (take_at front (replicate (NAME_LEN - length front) 0) (length front) refl))

-- the name of a text that is short enough
abbrev pub name_of_front : (front : List ℕ) → length front ≤ NAME_LEN → Name
name_of_front front short = record { len = length front; bytes = padded front; whole = length-padded front short; short = short; padded = padded-front front }

-- the first part of a text is short enough for a name
pub short-front : (text : List ℕ) → length (take NAME_LEN text) ≤ NAME_LEN
short-front text = omega (arith, length-take NAME_LEN text)

-- the name that a text of at most 16 bytes is
unfoldable pub name : List ℕ → Name
name text = name_of_front (take NAME_LEN text) (short-front text)
