-- IPv4 addresses: which are the same, and their order.
use Rattle.std.specs.Ordering.{nat_cmp, as_partial_cmp, eq_by_cmp}
use Rattle.std.specs.declared.cmp.Ordering.{Ordering}
use Rattle.std.specs.Cmp.{IsTotalOrder, IsPartialOrder, IsEquivalence, po, on_total, on_equiv, nat_cmp_total, nat_eq_equiv}
use Rattle.std.specs.Cmp.Lexicographic.{slice_cmp, lists_total, pointwise, pointwise_decides, lists_equiv}
use Rattle.std.specs.Cmp.Rules.{comparing}
use Rattle.std.proofs.Common.{rules, ap}
use Rattle.std.specs.Prelude.{◌≡◌, ℕ, Bool, true, nat_eq, List, length, refl}
use Rattle.std.specs.Bool.{Decides}
use Rattle.std.proofs.lemmas.Bool.Decides.{Decides-eqb}
use Rattle.td_base.specs.Bytes.{IsBytes}
use Rattle.td_base.specs.declared.ipv4.Ip4.{Ip4}

-- four bytes: what a clause over every address ranges over
abbrev pub IsIp4 : Ip4 → Type 0
IsIp4 ip = (length ip.0 ≡ 4) × IsBytes ip.0

-- the addresses are the same
unfoldable pub same_ip : Ip4 → Ip4 → Bool
same_ip a b = pointwise nat_eq a.0 b.0

-- sameness of IPv4 addresses is an equivalence
pub same_ip_equiv : IsEquivalence same_ip
unfolding same_ip
same_ip_equiv = on_equiv (λ (a : Ip4). a.0) (lists_equiv nat_eq_equiv)

-- the test of sameness decides equality of IPv4 addresses
pub same_ip_decides : (a b : Ip4) → Decides (same_ip a b) (a ≡ b)
unfolding same_ip
same_ip_decides a b = let d = pointwise_decides Decides-eqb a.0 b.0 in
    (λ t. ap (λ (xs : List ℕ). record { 0 = xs }) (d.0 t), λ e. d.1 (ap (λ (x : Ip4). x.0) e))

-- an IPv4 address is the same as itself
pub same_ip-self : (a : Ip4) → same_ip a a ≡ true
same_ip-self a = (same_ip_decides a a).1 refl

-- IPv4 addresses that are the same are equal
pub same_ip-true : (a b : Ip4) → same_ip a b ≡ true → a ≡ b
same_ip-true a b = (same_ip_decides a b).0

-- by their bytes
unfoldable pub cmp_ip : Ip4 → Ip4 → Ordering
cmp_ip a b = slice_cmp nat_cmp a.0 b.0

-- the order of IPv4 addresses is total
pub cmp_ip_total : IsTotalOrder cmp_ip
unfolding cmp_ip
cmp_ip_total = on_total (λ (a : Ip4). a.0) (lists_total nat_cmp_total)

-- IPv4 addresses are the same exactly where the order makes no difference between them
pub cmp_ip_ties : (a b : Ip4) → same_ip a b ≡ eq_by_cmp cmp_ip a b
unfolding cmp_ip same_ip
cmp_ip_ties = search (comparing, rules)

-- the order of IPv4 addresses agrees with their sameness
pub cmp_ip_po : IsPartialOrder same_ip (as_partial_cmp cmp_ip)
cmp_ip_po = po cmp_ip_total cmp_ip_ties
