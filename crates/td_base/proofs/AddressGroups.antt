-- An address and its eight groups.
use Rattle.td_base.proofs.Words.{Ip6, IsBytes, IsIp6, List, [], ap, arith, eight_items, groups, length, refl, sixteen_items, suc, sym, zero, ℕ, ◌%◌, ◌*◌, ◌+◌, ◌/◌, ◌<◌, ◌∙◌, ◌∷◌, ◌≡◌}
use Rattle.td_base.proofs.BytesLemmas.{AreBytes, byte_first}
use Rattle.td_base.proofs.SpellingLemmas.{AllSmall}

-- each number's two bytes
abbrev pub pair_bytes : List ℕ → List ℕ
pair_bytes [] = []
pair_bytes (n ∷ ns) = n / 256 ∷ n % 256 ∷ pair_bytes ns

length-pair_bytes : (ns : List ℕ) → length (pair_bytes ns) ≡ 2 * length ns
length-pair_bytes [] = refl
length-pair_bytes (n ∷ ns) = omega (arith, length-pair_bytes ns)

IsBytes-pair_bytes : (ns : List ℕ) → AllSmall ns → IsBytes (pair_bytes ns)
IsBytes-pair_bytes [] small i = omega arith
IsBytes-pair_bytes (n ∷ ns) small zero = omega (arith, small 0)
IsBytes-pair_bytes (n ∷ ns) small (suc zero) = omega arith
IsBytes-pair_bytes (n ∷ ns) small (suc (suc i)) = IsBytes-pair_bytes ns (λ k. small (suc k)) i

abbrev pub ip6_of : List ℕ → Ip6
ip6_of ns = record { 0 = pair_bytes ns }

pub IsIp6-ip6_of : (ns : List ℕ) → length ns ≡ 8 → AllSmall ns → IsIp6 (ip6_of ns)
IsIp6-ip6_of ns eight small = (omega (arith, length-pair_bytes ns, eight), IsBytes-pair_bytes ns small)

joined : (n : ℕ) → n / 256 * 256 + n % 256 ≡ n
joined n = omega arith

groups_eight : (a b c d e f g h : ℕ) → groups (ip6_of (a ∷ b ∷ c ∷ d ∷ e ∷ f ∷ g ∷ h ∷ [])) ≡ a ∷ b ∷ c ∷ d ∷ e ∷ f ∷ g ∷ h ∷ []
groups_eight a b c d e f g h = rw (joined a, joined b, joined c, joined d, joined e, joined f, joined g, joined h) refl

pub groups-ip6_of : (ns : List ℕ) → length ns ≡ 8 → groups (ip6_of ns) ≡ ns
groups-ip6_of ns eight =
    let items = eight_items ns eight in
    ap (λ (l : List ℕ). groups (ip6_of l)) items ∙ groups_eight _ _ _ _ _ _ _ _ ∙ sym items

high : (a b : ℕ) → b < 256 → (a * 256 + b) / 256 ≡ a
high a b lt = omega arith

low : (a b : ℕ) → b < 256 → (a * 256 + b) % 256 ≡ b
low a b lt = omega arith

-- the bytes of the groups are the address's
pub pair_bytes-groups : (ip : Ip6) → IsIp6 ip → pair_bytes (groups ip) ≡ ip.0
pair_bytes-groups ip is =
    let b = is.1 in
    rw (
      high _ _ (b 1),
      low _ _ (b 1),
      high _ _ (b 3),
      low _ _ (b 3),
      high _ _ (b 5),
      low _ _ (b 5),
      high _ _ (b 7),
      low _ _ (b 7),
      high _ _ (b 9),
      low _ _ (b 9),
      high _ _ (b 11),
      low _ _ (b 11),
      high _ _ (b 13),
      low _ _ (b 13),
      high _ _ (b 15),
      low _ _ (b 15),
    )
    (sym (sixteen_items ip.0 is.0))

pub one_ip6 : (p q : Ip6) → IsIp6 p → IsIp6 q → groups p ≡ groups q → p ≡ q
one_ip6 p q f g e =
    let lists : p.0 ≡ q.0 = sym (pair_bytes-groups p f) ∙ ap pair_bytes e ∙ pair_bytes-groups q g in
    ap (λ (l : List ℕ). record { 0 = l }) lists

-- the two bytes of a group, before others
pub group_first : {a b : ℕ} {bytes : List ℕ} → a < 256 → b < 256 → AreBytes bytes → AreBytes (a ∷ b ∷ bytes)
group_first {a} {b} {bytes} p q is = byte_first a p (byte_first b q is)
