-- Lists of bytes, as contracts speak of them.
use Rattle.std.specs.Prelude.{ℕ, ◌<◌, List, ◌≡◌, ◌+◌, ◌≤◌, ◌++◌, length, slice_index, take, drop, Result, Ok, Err}
use Rattle.td_base.specs.declared.refusals.Room.{Room}
use Rattle.byteorder.specs.Endian.{big_number}

-- each number is a byte
abbrev pub IsBytes : List ℕ → Type 0
IsBytes bytes = (i : ℕ) → slice_index bytes i < 256

-- the number in n bytes from a place, the highest first
abbrev pub number_at : ℕ → ℕ → List ℕ → ℕ
number_at place n x = big_number n (drop place x)

-- new is old with these bytes at a place
abbrev pub IsPut : ℕ → List ℕ → List ℕ → List ℕ → Type 0
IsPut place bytes old new = new ≡ take place old ++ bytes ++ drop (place + length bytes) old

-- A write of these bytes: to the front of what out held, or nothing is changed where that is shorter.
abbrev pub Writes : List ℕ → List ℕ → List ℕ → Result ℕ Room → Type 0
Writes bytes old new (Ok n) = (n ≡ length bytes) × (n ≤ length old) × (new ≡ bytes ++ drop n old)
Writes bytes old new (Err e) = (e.needed ≡ length bytes) × (length old < length bytes) × (new ≡ old)
