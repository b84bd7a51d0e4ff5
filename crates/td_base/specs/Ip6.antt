-- IPv6 addresses: which are the same, and their order.
use Rattle.std.specs.Ordering.{nat_cmp, as_partial_cmp, eq_by_cmp}
use Rattle.std.specs.declared.cmp.Ordering.{Ordering}
use Rattle.std.specs.Cmp.{IsTotalOrder, IsPartialOrder, IsEquivalence, po, on_total, on_equiv, nat_cmp_total, nat_eq_equiv}
use Rattle.std.specs.Cmp.Lexicographic.{slice_cmp, lists_total, pointwise, pointwise_decides, lists_equiv}
use Rattle.std.specs.Cmp.Rules.{comparing}
use Rattle.std.proofs.Common.{rules, ap}
use Rattle.std.specs.Prelude.{◌≡◌, ℕ, Bool, true, nat_eq, List, length, refl}
use Rattle.std.specs.Bool.{Decides}
use Rattle.std.proofs.lemmas.Bool.Decides.{Decides-eqb}
use Rattle.td_base.specs.Bytes.{IsBytes}
use Rattle.td_base.specs.declared.ipv6.Ip6.{Ip6}

-- sixteen bytes: what a clause over every address ranges over
abbrev pub IsIp6 : Ip6 → Type 0
IsIp6 ip = (length ip.0 ≡ 16) × IsBytes ip.0

-- the addresses are the same
unfoldable pub same_ip6 : Ip6 → Ip6 → Bool
same_ip6 a b = pointwise nat_eq a.0 b.0

-- sameness of IPv6 addresses is an equivalence
pub same_ip6_equiv : IsEquivalence same_ip6
unfolding same_ip6
same_ip6_equiv = on_equiv (λ (a : Ip6). a.0) (lists_equiv nat_eq_equiv)

-- the test of sameness decides equality of IPv6 addresses
pub same_ip6_decides : (a b : Ip6) → Decides (same_ip6 a b) (a ≡ b)
unfolding same_ip6
same_ip6_decides a b = let d = pointwise_decides Decides-eqb a.0 b.0 in
    (λ t. ap (λ (xs : List ℕ). record { 0 = xs }) (d.0 t), λ e. d.1 (ap (λ (x : Ip6). x.0) e))

-- an IPv6 address is the same as itself
pub same_ip6-self : (a : Ip6) → same_ip6 a a ≡ true
same_ip6-self a = (same_ip6_decides a a).1 refl

-- IPv6 addresses that are the same are equal
pub same_ip6-true : (a b : Ip6) → same_ip6 a b ≡ true → a ≡ b
same_ip6-true a b = (same_ip6_decides a b).0

-- by their bytes
unfoldable pub cmp_ip6 : Ip6 → Ip6 → Ordering
cmp_ip6 a b = slice_cmp nat_cmp a.0 b.0

-- the order of IPv6 addresses is total
pub cmp_ip6_total : IsTotalOrder cmp_ip6
unfolding cmp_ip6
cmp_ip6_total = on_total (λ (a : Ip6). a.0) (lists_total nat_cmp_total)

-- IPv6 addresses are the same exactly where the order makes no difference between them
pub cmp_ip6_ties : (a b : Ip6) → same_ip6 a b ≡ eq_by_cmp cmp_ip6 a b
unfolding cmp_ip6 same_ip6
cmp_ip6_ties = search (comparing, rules)

-- the order of IPv6 addresses agrees with their sameness
pub cmp_ip6_po : IsPartialOrder same_ip6 (as_partial_cmp cmp_ip6)
cmp_ip6_po = po cmp_ip6_total cmp_ip6_ties
