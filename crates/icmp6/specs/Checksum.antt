-- The checksum of a message: RFC 4443, section 2.3.
use Rattle.std.specs.Prelude.{ℕ, List, [], ◌∷◌, ◌++◌, length, take, drop}
use Rattle.byteorder.specs.Endian.{big_bytes}
use Rattle.td_base.specs.declared.ipv6.Ip6.{Ip6}
use Rattle.td_base.specs.Sums.{internet_checksum}
use Rattle.icmp6.specs.declared.numbers.TheConstants.{ICMPV6}

-- length and next header as 32 bits each, type and code, and checksum 0
abbrev pub summed_head : List ℕ → List ℕ
summed_head x = big_bytes 4 (length x) ++ (big_bytes 4 ICMPV6 ++ (take 2 x ++ 0 ∷ 0 ∷ []))

-- source and destination, that head, and the message behind its checksum
abbrev pub summed : Ip6 → Ip6 → List ℕ → List ℕ
summed src dst x = ((src.0 ++ dst.0) ++ summed_head x) ++ drop 4 x

-- the checksum of a message between two addresses
unfoldable pub checksum_of : Ip6 → Ip6 → List ℕ → ℕ
checksum_of src dst x = internet_checksum (summed src dst x)
