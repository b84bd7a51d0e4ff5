-- NATs that are there: each has its own address, which no client beside it has.
use Rattle.theory_ways.proofs.Words.{AllByRecursion, Behind, Bool, ClientNode, Ip4, IsChained, IsTopology, Lab, List, NatNode, Node, None, Option, Some, TopologyState, [], addresses_are_apart, all_at, all_joined, all_mapped, and_from, and_parts, ap, arith, as_nat, client, cond, false, false≢true, has_address, has_external, inner_at, is_apart, is_nat, is_some, list_all, nat, nat_at, nat_of, nat_set_up, nat_tests, native, node_at, nodes, not-true, option_and_then, outer_in, refl, relay, same_Some, same_ip, same_ip-self, same_ip-true, server, settings_of_nat, subst, sym, true, ℕ, ◌&&◌, ◌==◌, ◌||◌, ◌∙◌, ◌∷◌, ◌≡◌}
use Rattle.theory_ways.proofs.chains.Chains.{link, links_of, aparts_of}

-- ITS ADDRESS

-- node k is a NAT
pub record IsNat (t : TopologyState) (k : ℕ) : Type 0 where
  pub row : NatNode
  pub at : node_at t k ≡ Some (nat row)

-- so is each that looks like one
pub nat_there : (t : TopologyState) (k : ℕ) → is_nat (node_at t k) ≡ true → IsNat t k
nat_there t k h = by (node_at t k) refl h where
  by : (o : Option Node) → node_at t k ≡ o → is_nat o ≡ true → IsNat t k
  by None e g = absurd (false≢true g)
  by (Some (nat a)) e g = record { row = a; at = e }
  by (Some (server a)) e g = absurd (false≢true g)
  by (Some (client a)) e g = absurd (false≢true g)
  by (Some (relay a)) e g = absurd (false≢true g)
  by (Some (native a)) e g = absurd (false≢true g)

-- it is set up as its row says
pub set_up_is : (t : TopologyState) (k : ℕ) (n : IsNat t k) → (nat_set_up t k).external ≡ n.row.external
set_up_is t k n = ap (λ (o : Option Node). (settings_of_nat (option_and_then as_nat o)).external) n.at

-- it has its own address
pub has_own : (ip : Ip4) (row : NatNode) → ip ≡ row.external → has_address ip (nat row) ≡ true
has_own ip row same = ap (λ (b : Bool). b || false) (subst (λ (x : Ip4). same_ip ip x ≡ true) same (same_ip-self ip))

-- and is found by it
pub external_there : (t : TopologyState) (j : ℕ) (ip : Ip4) → IsNat t j → ip ≡ (nat_set_up t j).external → has_external ip (nat_at t j) ≡ true
external_there t j ip n same =
    ap (λ (o : Option Node). has_external ip (option_and_then as_nat o)) n.at
    ∙ subst (λ (x : Ip4). same_ip ip x ≡ true) (same ∙ set_up_is t j n) (same_ip-self ip)

-- what has an address that a NAT has is that NAT
pub one_nat : (t : TopologyState) → IsTopology t → (i j : ℕ) (ip : Ip4) → IsNat t j → ip ≡ (nat_set_up t j).external
    → has_external ip (nat_at t i) ≡ true → i ≡ j
one_nat t is i j ip n same h = by (node_at t i) refl h where
  by : (o : Option Node) → node_at t i ≡ o → has_external ip (option_and_then as_nat o) ≡ true → i ≡ j
  by None e g = absurd (false≢true g)
  by (Some (nat a)) e g = addresses_are_apart t i j (nat a) (nat n.row) ip is e n.at (has_own ip a (same_ip-true ip a.external g)) (has_own ip n.row (same ∙ set_up_is t j n))
  by (Some (server a)) e g = absurd (false≢true g)
  by (Some (client a)) e g = absurd (false≢true g)
  by (Some (relay a)) e g = absurd (false≢true g)
  by (Some (native a)) e g = absurd (false≢true g)

-- BEHIND ANOTHER ONE

-- so the NAT with an address behind a NAT is found
pub inner_found : {t : TopologyState} → IsTopology t → (chain : List Behind) {i j : ℕ} {ip : Ip4} → IsNat t j
    → ip ≡ (nat_set_up t j).external → outer_in chain j ≡ Some i → inner_at t chain i ip ≡ Some j
inner_found is [] n same at = absurd (false≢true (ap (λ (o : Option ℕ). is_some o) at))
inner_found {t} is (b ∷ rest) {i} {j} {ip} n same at = by ((b.outer == i) && has_external ip (nat_at t b.inner)) refl
    (λ e. inner_found is rest n same e) where
      its : b.inner ≡ j → b.outer ≡ i → ((b.outer == i) && has_external ip (nat_at t b.inner)) ≡ true
      its inner outer = and_from (b.outer == i) (has_external ip (nat_at t b.inner)) (grind (arith, nat_tests))
          (subst (λ (k : ℕ). has_external ip (nat_at t k) ≡ true) (sym inner) (external_there t j ip n same))

      later : (x : Bool) → (b.inner == j) ≡ x → cond x (Some b.outer) (outer_in rest j) ≡ Some i
          → ((b.outer == i) && has_external ip (nat_at t b.inner)) ≡ false → outer_in rest j ≡ Some i
      later false e f none = f
      later true e f none =
          let inner : b.inner ≡ j = grind (arith, nat_tests) in
          absurd (false≢true (sym none ∙ its inner (same_Some b.outer i f)))

      by : (x : Bool) → ((b.outer == i) && has_external ip (nat_at t b.inner)) ≡ x → (outer_in rest j ≡ Some i → inner_at t rest i ip ≡ Some j)
          → cond x (Some b.inner) (inner_at t rest i ip) ≡ Some j
      by true e ih =
          let both = and_parts (b.outer == i) (has_external ip (nat_at t b.inner)) e in
          ap (λ (k : ℕ). Some k) (one_nat t is b.inner j ip n same both.1)
      by false e ih = ih (later (b.inner == j) refl at e)

-- CLIENTS BESIDE IT

-- a client's row is among the clients
client_row : (t : TopologyState) (n : ℕ) (c : ClientNode) (p : ClientNode → Bool) → list_all p t.clients ≡ true
    → node_at t n ≡ Some (client c) → p c ≡ true
client_row t n c p all at = all_at (Passes) (nodes t) n (client c)
    (all_joined Passes _ _ (all_mapped Passes server t.servers (none_of t.servers))
    (all_joined Passes _ _ (all_mapped Passes nat t.nats (none_of t.nats))
    (all_joined Passes _ _ (all_mapped Passes client t.clients (each t.clients all))
    (all_joined Passes _ _ (all_mapped Passes relay t.relays (none_of t.relays)) (all_mapped Passes native t.natives (none_of t.natives)))))) at where
      Passes : Node → Type 0
      Passes (client d) = p d ≡ true
      Passes _ = Unit {0}

      none_of : {A : Type 0} (xs : List A) → AllByRecursion (λ (x : A). Unit {0}) xs
      none_of [] = tt
      none_of (x ∷ xs) = (tt, none_of xs)

      each : (cs : List ClientNode) → list_all p cs ≡ true → AllByRecursion (λ (d : ClientNode). p d ≡ true) cs
      each [] h = tt
      each (d ∷ cs) h = let both = and_parts (p d) (list_all p cs) h in (both.0, each cs both.1)

-- directly behind a client's NAT no NAT has the client's address
pub none_inside : (lab : Lab) (n : ℕ) (c : ClientNode) → IsChained lab → node_at lab.topology n ≡ Some (client c)
    → is_some (inner_at lab.topology lab.chain c.nat c.inside.ip) ≡ false
none_inside lab n c chained at = not-true (is_some (inner_at lab.topology lab.chain c.nat c.inside.ip))
    (client_row lab.topology n c (is_apart lab.topology lab.chain) (aparts_of lab.topology lab.chain chained) at)

-- so it isn't that of NAT k
pub apart_from : (lab : Lab) → IsTopology lab.topology → IsChained lab → (n : ℕ) {c : ClientNode} → node_at lab.topology n ≡ Some (client c)
    → (k : ℕ) → outer_in lab.chain k ≡ Some c.nat → c.inside.ip ≡ (nat_of lab k).external → ⊥
apart_from lab is chained n {c} at k up same =
    let l = link lab.topology lab.chain k c.nat (links_of lab.topology lab.chain chained) up in
    let found : inner_at lab.topology lab.chain c.nat c.inside.ip ≡ Some k =
    inner_found is lab.chain (nat_there lab.topology k l.inner) same up in
    false≢true (sym (none_inside lab n c chained at) ∙ ap (λ (o : Option ℕ). is_some o) found)
