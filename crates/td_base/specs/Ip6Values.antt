-- The IPv6 address that a text is: RFC 4291, section 2.2, forms 1 and 2.
use Rattle.std.specs.Prelude.{ℕ, ◌+◌, ◌-◌, ◌/◌, ◌%◌, ◌==◌, ◌&&◌, nat_le, nat_lt, Bool, false, if◌then◌else◌, List, []}
use Rattle.std.specs.Prelude.{◌∷◌, ◌++◌, length, drop, flat_map, replicate, option_map, Option, Some, None}
use Rattle.std.specs.List.{list_all}
use Rattle.std.specs.Char.{digit_value}
use Rattle.std.specs.Str.Parse.{digits_value}
use Rattle.td_base.specs.declared.ipv6.Ip6.{Ip6}
use Rattle.td_base.specs.Options.{◌>>=◌}
use Rattle.td_base.specs.Values.{colon, parts_at}

-- one to four hexadecimal digits of either case
abbrev pub is_group : List ℕ → Bool
is_group digits = list_all (λ byte. nat_lt (digit_value byte) 16) digits && nat_le 1 (length digits) && nat_le (length digits) 4

-- the number of 16 bits that such digits say
unfoldable pub group_of : List ℕ → Option ℕ
group_of digits = if is_group digits then Some (digits_value 16 digits) else None

-- the number of each group of digits, or none where one is no group
abbrev pub each_group : List (List ℕ) → Option (List ℕ)
each_group [] = Some []
each_group (digits ∷ more) = do
  n ← group_of digits
  ns ← each_group more
  Some (n ∷ ns)

-- the groups of a text with colons between them; the empty text has none
unfoldable pub groups_of : List ℕ → Option (List ℕ)
groups_of [] = Some []
groups_of (byte ∷ more) = each_group (parts_at colon (byte ∷ more))

-- does the text begin with a colon?
abbrev pub begins_with_colon : List ℕ → Bool
begins_with_colon [] = false
begins_with_colon (byte ∷ more) = byte == colon

-- the two sides of a text with one more byte in front of the first
abbrev pub behind : ℕ → List ℕ × List ℕ → List ℕ × List ℕ
behind byte sides = (byte ∷ sides.0, sides.1)

-- what stands before the first `::` of a text, and behind it
abbrev pub elided_at : List ℕ → Option (List ℕ × List ℕ)
elided_at [] = None
elided_at (byte ∷ more) = if (byte == colon) && begins_with_colon more then Some ([], drop 1 more) else option_map (behind byte) (elided_at more)

-- eight groups
abbrev pub all_eight : List ℕ → Option (List ℕ)
all_eight ns = if length ns == 8 then Some ns else None

-- fewer than eight, with zero groups between them in place of those that are missing
abbrev pub filled : List ℕ → List ℕ → Option (List ℕ)
filled head tail = if nat_lt (length head + length tail) 8 then Some (head ++ (replicate (8 - length head - length tail) 0 ++ tail)) else None

-- the eight groups that a text says, with or without `::` in it
abbrev pub numbers_of : List ℕ → Option (List ℕ × List ℕ) → Option (List ℕ)
numbers_of text None = groups_of text >>= all_eight
numbers_of text (Some sides) = do
  head ← groups_of sides.0
  tail ← groups_of sides.1
  filled head tail

-- the address of eight groups
abbrev pub address : List ℕ → Ip6
address ns = record { 0 = flat_map (λ n. n / 256 ∷ n % 256 ∷ []) ns }

-- the address that a text is
unfoldable pub ip6_of : List ℕ → Option Ip6
ip6_of text = option_map address (numbers_of text (elided_at text))
