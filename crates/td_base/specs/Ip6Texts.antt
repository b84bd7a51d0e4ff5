-- The text of an IPv6 address, by RFC 5952, section 4.
use Rattle.std.specs.Prelude.{◌≡◌, ℕ, ◌+◌, ◌-◌, ◌*◌, ◌<◌, ◌≤◌, ◌⊎◌, List, [], ◌∷◌, ◌++◌, length, replicate, slice_index}
use Rattle.std.specs.Str.Parse.{IsNumeral, digits_value}
use Rattle.std.specs.Net.Text.{hex_groups_text}
use Rattle.td_base.specs.Ip6.{IsIp6}
use Rattle.td_base.specs.declared.ipv6.Ip6.{Ip6}

-- one of an address's eight groups of 16 bits
abbrev pub group : Ip6 → ℕ → ℕ
group ip k = slice_index ip.0 (2 * k) * 256 + slice_index ip.0 (2 * k + 1)

-- the eight groups of an IPv6 address, each of 16 bits
abbrev pub groups : Ip6 → List ℕ
groups ip = group ip 0 ∷ group ip 1 ∷ group ip 2 ∷ group ip 3 ∷ group ip 4 ∷ group ip 5 ∷ group ip 6 ∷ group ip 7 ∷ []

-- The groups in lower-case hexadecimal without leading zeros, with colons between them, and `::` in place of the first longest run of two or more zero groups.
abbrev pub ip6_text : Ip6 → List ℕ
ip6_text ip = hex_groups_text (groups ip)

-- one to four hexadecimal digits of either case
abbrev pub IsGroup : List ℕ → ℕ → Type 0
IsGroup digits n = IsNumeral 16 digits × (digits_value 16 digits ≡ n) × (length digits ≤ 4)

-- groups with colons (58) between them
abbrev pub AreGroups : List ℕ → List ℕ → Type 0
AreGroups [] text = text ≡ []
AreGroups (n ∷ []) text = IsGroup text n
AreGroups (n ∷ m ∷ ns) text = (first rest : List ℕ) × IsGroup first n × AreGroups (m ∷ ns) rest × (text ≡ first ++ 58 ∷ rest)

-- `::` stands for the zero groups, one or more, that the groups round it leave
pub record IsElided (numbers text : List ℕ) : Type 0 where
  pub head : List ℕ
  pub tail : List ℕ
  pub head_text : List ℕ
  pub tail_text : List ℕ
  pub head_groups : AreGroups head head_text
  pub tail_groups : AreGroups tail tail_text
  pub spelled : text ≡ head_text ++ 58 ∷ 58 ∷ tail_text
  pub room : length head + length tail < 8
  pub value : numbers ≡ head ++ (replicate (8 - length head - length tail) 0 ++ tail)

-- the text is one of the address's
abbrev pub Spells : Ip6 → List ℕ → Type 0
Spells ip text = AreGroups (groups ip) text ⊎ IsElided (groups ip) text

-- the text spells some IPv6 address
abbrev pub IsIp6Text : List ℕ → Type 0
IsIp6Text text = (ip : Ip6) × IsIp6 ip × Spells ip text
