-- How the listings of a table stand, and what is due before what.
use Rattle.std.specs.Prelude.{◌≡◌, ◌≤◌, ℕ, Bool, true, false, List, [], ◌∷◌, length, Option, Some, None}
use Rattle.std.specs.List.{AllByRecursion}
use Rattle.std.specs.Ordering.{nat_cmp, ordering_then, is_lt}
use Rattle.std.specs.declared.cmp.Ordering.TheVariants.{Less}
use Rattle.td_base.specs.Ip6.{same_ip6, cmp_ip6}
use Rattle.td_base.specs.declared.ipv6.Ip6.{Ip6}
use Rattle.td_base.specs.declared.millis.Millis.{Millis}
use Rattle.peer_list.specs.declared.limits.TheConstants.{PEERS_MAX}
use Rattle.peer_list.specs.Judged.{is_none}
use Rattle.peer_list.specs.Waiting.{Listing}
use Rattle.peer_list.specs.Table.{due_and_who}

-- THE LISTINGS

-- each address comes before those after it
abbrev pub AreInOrder : List Listing → Type 0
AreInOrder [] = Unit {0}
AreInOrder (l ∷ ls) = AllByRecursion (λ (o : Listing). cmp_ip6 l.who o.who ≡ Less) ls × AreInOrder ls

-- so of no address there are two listings
abbrev pub AreApart : List Listing → Type 0
AreApart [] = Unit {0}
AreApart (l ∷ ls) = AllByRecursion (λ (o : Listing). same_ip6 l.who o.who ≡ false) ls × AreApart ls

-- and there are at most 256 in all
pub record AreSound (ls : List Listing) : Type 0 where
  pub order : AreInOrder ls
  pub few : length ls ≤ PEERS_MAX

-- MOMENTS

-- touched at m or later
abbrev pub IsSince : ℕ → Option ℕ → Type 0
IsSince m None = ⊥
IsSince m (Some k) = m ≤ k

-- due before the first, or there is no first
abbrev pub is_before : Millis × Ip6 → Option (Millis × Ip6) → Bool
is_before x None = true
is_before x (Some first) = is_lt (ordering_then (nat_cmp x.0.0 first.0.0) (cmp_ip6 x.1 first.1))

-- if packets wait for it, it isn't due before the first
abbrev pub IsNotBefore : Option (Millis × Ip6) → Listing → Type 0
IsNotBefore first l = is_none l.peer.waiting ≡ false → is_before (due_and_who l) first ≡ false

-- no listing is due before the one that is due first
abbrev pub NoneBefore : Option (Millis × Ip6) → List Listing → Type 0
NoneBefore first ls = AllByRecursion (IsNotBefore first) ls
