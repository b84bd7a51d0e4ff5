-- Numbers of a capture in bytes: lowest byte first, or in network order.
use Rattle.std.specs.Prelude.{ℕ, List, drop, Bool, true, false}
use Rattle.byteorder.specs.Endian.{big_bytes, little_bytes, big_number, little_number}

-- the n bytes of a number
abbrev pub ordered_bytes : Bool → ℕ → ℕ → List ℕ
ordered_bytes true n number = little_bytes n number
ordered_bytes false n number = big_bytes n number

-- the number in n bytes from a place
abbrev pub ordered_number : Bool → ℕ → ℕ → List ℕ → ℕ
ordered_number true place n x = little_number n (drop place x)
ordered_number false place n x = big_number n (drop place x)
