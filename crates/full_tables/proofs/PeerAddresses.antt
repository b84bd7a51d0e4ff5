-- Addresses that embed the NAT at 198.51.100.1, one a port, and name it as their server: what they tell, and that they differ.
use Rattle.full_tables.proofs.Words.{Bool, Ep, Ip4, Ip6, IsBytes, IsIp4, IsTeredoOf, List, Strict, [], and_parts, ap, arith, cone_in, embedded, false, false≢true, has_cone, is_global, is_reachable, is_usable, length, list_all, list_any, ltb-true, nat_lt, nat_tests, not, refl, same_ip, same_ip-self, same_ip6, same_ip6-true, server_in, suc, sym, teredo_ip, teredo_tells, true, zero, ℕ, ◌&&◌, ◌<◌, ◌==◌, ◌||◌, ◌∙◌, ◌∷◌, ◌≡◌, ◌≤◌}

-- the address of the NAT
abbrev pub at_nat : Ip4
at_nat = record { 0 = 198 ∷ 51 ∷ 100 ∷ 1 ∷ [] }

-- number k of the addresses: the port is k + 1
abbrev pub mapped : ℕ → Ep
mapped k = record { ip = at_nat; port = suc k }

unfoldable pub peer : ℕ → Ip6
peer k = teredo_ip at_nat 0 (mapped k)

-- the first k of them, the latest first
abbrev pub first_peers : ℕ → List Ip6
first_peers zero = []
first_peers (suc k) = peer k ∷ first_peers k

-- there are so many
pub count_is : (k : ℕ) → length (first_peers k) ≡ k
count_is zero = refl
count_is (suc k) = ap suc (count_is k)

-- bytes, by a test of each
abbrev byte : ℕ → Bool
byte b = nat_lt b 256

pub are_bytes : (xs : List ℕ) → list_all byte xs ≡ true → IsBytes xs
are_bytes [] e i = omega arith
are_bytes (x ∷ xs) e zero = let both = and_parts (byte x) (list_all byte xs) e in ltb-true _ _ both.0
are_bytes (x ∷ xs) e (suc i) = let both = and_parts (byte x) (list_all byte xs) e in are_bytes xs both.1 i

nat_made : IsIp4 at_nat
nat_made = (refl, are_bytes (198 ∷ 51 ∷ 100 ∷ 1 ∷ []) refl)

-- WHAT ONE TELLS

module _ (k : ℕ) (few : k < 1000) where
  pub tells_it : IsTeredoOf at_nat 0 (mapped k) (peer k)
  unfolding peer
  tells_it = teredo_tells at_nat 0 (mapped k) nat_made (omega arith) (nat_made, omega (arith, few))

  -- no cone bit
  no_flags : cone_in 0 ≡ false
  unfolding cone_in
  no_flags = refl

  pub plain : has_cone (peer k) ≡ false
  plain = tells_it.cone_is ∙ no_flags

  -- it can be reached
  some_port : (suc k == 0) ≡ false
  some_port = grind (arith, nat_tests)

  usable_port : is_usable Strict (mapped k) ≡ true
  unfolding is_usable is_global
  usable_port = ap not some_port

  global_nat : is_global Strict at_nat ≡ true
  unfolding is_global
  global_nat = refl

  pub reachable : is_reachable Strict (peer k) ≡ true
  unfolding is_reachable
  reachable =
      ap (λ (e : Ep). is_usable Strict e && is_global Strict (server_in (peer k))) tells_it.mapped_is
      ∙ ap (λ (b : Bool). b && is_global Strict (server_in (peer k))) usable_port
      ∙ ap (is_global Strict) tells_it.server_is
      ∙ global_nat

  -- an address that names another server is another one
  pub not_own : (own : Ip6) → same_ip at_nat (server_in own) ≡ false → same_ip6 (peer k) own ≡ false
  not_own own other = by (same_ip6 (peer k) own) refl where
    by : (b : Bool) → same_ip6 (peer k) own ≡ b → b ≡ false
    by false is = refl
    by true is =
        let server : server_in own ≡ at_nat = ap server_in (sym (same_ip6-true (peer k) own is)) ∙ tells_it.server_is in
        absurd (false≢true (sym other ∙ ap (same_ip at_nat) server ∙ same_ip-self at_nat))

-- THEY DIFFER

-- those of two numbers
apart : (i k : ℕ) → i < 1000 → k < i → same_ip6 (peer i) (peer k) ≡ false
apart i k few less = by (same_ip6 (peer i) (peer k)) refl where
  by : (b : Bool) → same_ip6 (peer i) (peer k) ≡ b → b ≡ false
  by false is = refl
  by true is =
      let ports : suc i ≡ suc k = ap (λ (e : Ep). e.port) (sym (tells_it i few).mapped_is ∙ ap embedded (same_ip6-true (peer i) (peer k) is)
      ∙ (tells_it k (omega (arith, few, less))).mapped_is) in
      absurd (omega (arith, ports, less))

-- the next one isn't among them
pub next_is_new : (i k : ℕ) → i < 1000 → k ≤ i → list_any (same_ip6 (peer i)) (first_peers k) ≡ false
next_is_new i zero few le = refl
next_is_new i (suc k) few le =
    ap (λ (b : Bool). b || list_any (same_ip6 (peer i)) (first_peers k)) (apart i k few (omega (arith, le)))
    ∙ next_is_new i k few (omega (arith, le))

-- nor is an address that names another server
pub other_is_new : (own : Ip6) → same_ip at_nat (server_in own) ≡ false → (k : ℕ) → k ≤ 1000 → list_any (same_ip6 own) (first_peers k) ≡ false
other_is_new own other zero le = refl
other_is_new own other (suc k) le =
    ap (λ (b : Bool). b || list_any (same_ip6 own) (first_peers k)) (turned k (omega (arith, le)))
    ∙ other_is_new own other k (omega (arith, le)) where
      turned : (i : ℕ) → i < 1000 → same_ip6 own (peer i) ≡ false
      turned i few = by (same_ip6 own (peer i)) refl where
        by : (b : Bool) → same_ip6 own (peer i) ≡ b → b ≡ false
        by false is = refl
        by true is =
            let server : server_in own ≡ at_nat = ap server_in (same_ip6-true own (peer i) is) ∙ (tells_it i few).server_is in
            absurd (false≢true (sym other ∙ ap (same_ip at_nat) server ∙ same_ip-self at_nat))
