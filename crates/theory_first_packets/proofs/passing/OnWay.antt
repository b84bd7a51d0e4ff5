-- The NATs of a client's way: each is there and keeps what it let out for a while, and all but the last are behind others.
use Rattle.theory_first_packets.proofs.Words.{AllByRecursion, Behind, Bool, Contains, Ep, Full, Lab, List, NatEntry, NatNode, Node, None, Option, Outward, Some, [], ap, arith, as_nat, client, cond, counting, false, false_from_ne_true, false≢true, filter, inl, inr, is_inner, is_node, is_some, is_young, kept, last_nat, length, nat, nat_history, nat_of, nat_tests, native, nats_from, node_at, now, option_and_then, outer_in, refl, relay, server, settings_of_nat, subst, suc, sym, true, zero, ℕ, ◌<◌, ◌==◌, ◌∙◌, ◌∷◌, ◌≡◌, ◌⊎◌}
use Rattle.theory_first_packets.proofs.passing.Addresses.{is_nat_node, two_kinds}
use Rattle.theory_first_packets.proofs.passing.WaysIn.{WayIn}

-- a NAT that is there, and keeps what it let out for a while
pub record IsOnWay (lab : Lab) (k : ℕ) : Type 0 where
  pub row : NatNode
  pub at : node_at lab.topology k ≡ Some (nat row)
  pub external : (nat_of lab k).external ≡ row.external
  pub lives : 0 < (nat_of lab k).idle

-- a node of another kind is none of them
pub no_nat : (lab : Lab) (i : ℕ) (a : Node) → node_at lab.topology i ≡ Some a → is_nat_node a ≡ false → (k : ℕ) → IsOnWay lab k → k ≡ i → ⊥
no_nat lab i a at kind k on = two_kinds lab.topology {i = k} {j = i} is_nat_node on.at at refl kind

-- so a record of it is none of theirs
pub not_of : {lab : Lab} {i : ℕ} {a : Node} → node_at lab.topology i ≡ Some a → is_nat_node a ≡ false → (q : Full) → q.node ≡ Some i → {k : ℕ}
    → IsOnWay lab k → is_node k q.node ≡ false
not_of {lab} {i} {a} at kind q node {k} on = ap (is_node k) node ∙ false_from_ne_true (k == i) (λ h.
    no_nat lab i a at kind k on (let same : k ≡ i = grind (arith, nat_tests) in same))

-- where nothing is kept nothing counts
none_young : (n : ℕ) (es : List Outward) → filter (is_young 0 n) es ≡ []
none_young n [] = refl
none_young n (e ∷ es) = by (is_young 0 n e) (grind (arith, nat_tests)) (none_young n es) where
  by : (b : Bool) → b ≡ false → filter (is_young 0 n) es ≡ [] → cond b (e ∷ filter (is_young 0 n) es) (filter (is_young 0 n) es) ≡ []
  by false h ih = ih
  by true h ih = absurd (false≢true (sym h))

-- so a NAT at which something counts keeps it for a while
pub keeps_on : (idle n : ℕ) (h : List NatEntry) (d : Outward) → Contains (counting idle n h) d → 0 < idle
keeps_on zero n h d c = absurd (beyond c.0 (length (counting 0 n h)) c.1 (ap (λ (es : List Outward). length es) (none_young n (kept h)))) where
  beyond : (i n : ℕ) → i < n → n ≡ 0 → ⊥
  beyond i n less none = omega (arith, less, none)
keeps_on (suc i) n h d c = omega arith

-- and is there
on_way : (lab : Lab) (k : ℕ) → 0 < (nat_of lab k).idle → IsOnWay lab k
on_way lab k lives = by (node_at lab.topology k) refl where
  none : (o : Option Node) → node_at lab.topology k ≡ o → option_and_then as_nat o ≡ None → ⊥
  none o at missing =
      let idle : (nat_of lab k).idle ≡ 0 = ap (λ (z : Option Node). (settings_of_nat (option_and_then as_nat z)).idle) at
      ∙ ap (λ (z : Option NatNode). (settings_of_nat z).idle) missing in
      omega (arith, lives, idle)

  by : (o : Option Node) → node_at lab.topology k ≡ o → IsOnWay lab k
  by None at = absurd (none None at refl)
  by (Some (nat a)) at = record {
    row = a;
    at = at;
    external = ap (λ (z : Option Node). (settings_of_nat (option_and_then as_nat z)).external) at;
    lives = lives;
  }
  by (Some (server a)) at = absurd (none (Some (server a)) at refl)
  by (Some (client a)) at = absurd (none (Some (client a)) at refl)
  by (Some (relay a)) at = absurd (none (Some (relay a)) at refl)
  by (Some (native a)) at = absurd (none (Some (native a)) at refl)

-- each NAT past which a way leads in
pub all_on_way : (lab : Lab) (H : List Full) (src : Ep) (way : List ℕ) (inside dst : Ep) → WayIn lab H src way inside dst → AllByRecursion (IsOnWay lab) way
all_on_way lab H src [] inside dst w = tt
all_on_way lab H src (k ∷ way) inside dst w = (
  on_way lab k (keeps_on (nat_of lab k).idle (now H) (nat_history lab k H) w.2.datagram w.2.counts),
  all_on_way lab H src way w.0 dst w.3,
)

-- it leads in from the address of the last one
pub last_address : (lab : Lab) (H : List Full) (src : Ep) (k : ℕ) (way : List ℕ) (inside dst : Ep) → WayIn lab H src (k ∷ way) inside dst
    → dst.ip ≡ (nat_of lab (last_nat k way)).external
last_address lab H src k [] inside dst w = subst (λ (e : Ep). e.ip ≡ (nat_of lab k).external) w.3 w.1
last_address lab H src k (j ∷ way) inside dst w = last_address lab H src j way w.0 dst w.3

pub last_so : (P : ℕ → Type 0) (k : ℕ) (way : List ℕ) → AllByRecursion P (k ∷ way) → P (last_nat k way)
last_so P k [] all = all.0
last_so P k (j ∷ way) all = last_so P j way all.1

-- all but the last are behind others
abbrev pub IsLastOrInner : Lab → ℕ → ℕ → Type 0
IsLastOrInner lab last k = (k ≡ last) ⊎ (is_inner lab.chain k ≡ true)

abbrev pub ButLast : Lab → List Behind → ℕ → Option ℕ → Type 0
ButLast lab at_most k o = AllByRecursion (IsLastOrInner lab (last_nat k (nats_from lab.chain at_most o))) (k ∷ nats_from lab.chain at_most o)

pub inner_but_last : (lab : Lab) (at_most : List Behind) (k : ℕ) → ButLast lab at_most k (outer_in lab.chain k)
inner_but_last lab [] k = by (outer_in lab.chain k) where
  by : (o : Option ℕ) → ButLast lab [] k o
  by None = (inl refl, tt)
  by (Some i) = (inl refl, tt)
inner_but_last lab (b ∷ rest) k = by (outer_in lab.chain k) refl (inner_but_last lab rest) where
  by : (o : Option ℕ) → outer_in lab.chain k ≡ o → ((i : ℕ) → ButLast lab rest i (outer_in lab.chain i)) → ButLast lab (b ∷ rest) k o
  by None at ih = (inl refl, tt)
  by (Some i) at ih = (inr (ap (λ (o : Option ℕ). is_some o) at), ih i)
