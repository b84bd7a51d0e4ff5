-- The answer to an outward datagram: the function against the relation.
use Rattle.nat_kinds.proofs.Words.{Bool, Ep, Err, FIRST_PORT, Full, GivesPort, Hairpin, Ip4, IsAnswer, IsLowestFree, List, MAPPINGS_MAX, NatSettings, None, Ok, Option, Outward, Some, answer_of, ap, arith, cases_lt, cases_order, cond, cond-false, cond-true, eq-or-lt_of_le, eqb, false, false≢true, first_free, is_used, le-length_from_below, le-ltb, length, list_any, live_port, lowest_free, lt-ltb, ltb-false, ltb-true, map, nat_lt, port_for, refl, same_ip, same_ip-true, same_ip_decides, subst, suc, sym, true, zero, ℕ, ⊎_elim, ◌+◌, ◌<◌, ◌∙◌, ◌≡◌, ◌≤◌}
use Rattle.nat_kinds.proofs.ListLemmas.{length-mapped}
use Rattle.nat_kinds.proofs.PortLemmas.{slot, used_at_slot}

-- THE FIRST FREE PORT

first_free-from : (live : List Outward) (port n : ℕ) → port ≤ first_free live port n
first_free-from live port zero = omega arith
first_free-from live port (suc n) = by_case (is_used live port) (first_free-from live (port + 1) n)
  where
    by_case : (b : Bool) → port + 1 ≤ first_free live (port + 1) n → port ≤ cond b (first_free live (port + 1) n) port
    by_case true h = omega arith
    by_case false h = omega arith

first_free-below : (live : List Outward) (port n q : ℕ) → port ≤ q → q < first_free live port n → is_used live q ≡ true
first_free-below live port zero q l h = absurd (omega arith)
first_free-below live port (suc n) q l h = by_case (is_used live port) refl h (λ s k. first_free-below live (port + 1) n q s k)
  where
    by_case : (b : Bool) → is_used live port ≡ b → q < cond b (first_free live (port + 1) n) port → (port + 1 ≤ q → q < first_free live (port + 1) n → is_used live q ≡ true) → is_used live q ≡ true
    by_case true e k next = ⊎_elim (λ s. subst (λ (p : ℕ). is_used live p ≡ true) s e) (λ s. next (omega (arith, s)) k) (eq-or-lt_of_le l)
    by_case false e k next = absurd (omega arith)

first_free-free : (live : List Outward) (port n : ℕ) → first_free live port n < port + n → is_used live (first_free live port n) ≡ false
first_free-free live port zero h = absurd (omega arith)
first_free-free live port (suc n) h = by_case (is_used live port) refl h (λ k. first_free-free live (port + 1) n k)
  where
    by_case : (b : Bool) → is_used live port ≡ b → cond b (first_free live (port + 1) n) port < port + suc n
        → (first_free live (port + 1) n < port + 1 + n → is_used live (first_free live (port + 1) n) ≡ false)
        → is_used live (cond b (first_free live (port + 1) n) port) ≡ false
    by_case true e k next = next (omega arith)
    by_case false e k next = e

-- mappings can't hold one port more than they are
pub lowest_free-is : (live : List Outward) → IsLowestFree live (lowest_free live)
lowest_free-is live = record {
  from_first = first_free-from live FIRST_PORT (length live);
  free = by_case (is_used live (lowest_free live)) refl;
  lowest = λ q l h. first_free-below live FIRST_PORT (length live) q l h;
}
  where
    by_case : (b : Bool) → is_used live (lowest_free live) ≡ b → is_used live (lowest_free live) ≡ false
    by_case false e = e
    by_case true e = absurd (⊎_elim
        (λ most. false≢true (sym (first_free-free live FIRST_PORT (length live) most) ∙ e))
        (λ least.
        let used : (q : ℕ) → q < length live + 1 → list_any (eqb q) (map slot live) ≡ true =
        λ q k. used_at_slot live q (⊎_elim (λ s. subst (λ (p : ℕ). is_used live p ≡ true) (sym s) e)
        (λ s. first_free-below live FIRST_PORT (length live) (q + FIRST_PORT) (omega arith) s)
        (eq-or-lt_of_le {n = q + FIRST_PORT} {m = lowest_free live} (omega arith))) in
        let many : length live + 1 ≤ length (map slot live) = le-length_from_below (map slot live) (length live + 1) used in
        omega (arith, length-mapped slot live))
        (cases_lt (lowest_free live) (FIRST_PORT + length live)))

lowest-one : (live : List Outward) (a b : ℕ) → IsLowestFree live a → IsLowestFree live b → a ≡ b
lowest-one live a b f g = ⊎_elim (λ e. e) (λ s. absurd (⊎_elim (λ l. false≢true (sym f.free ∙ g.lowest a f.from_first l)) (λ l. false≢true (sym g.free ∙ f.lowest b g.from_first l)) s)) (cases_order a b)

-- THE FUNCTION MEETS THE RELATION

apart : (a b : Ip4) → same_ip a b ≡ false → a ≡ b → ⊥
apart a b n e = false≢true (sym n ∙ (same_ip_decides a b).1 e)

pub answer-is : (s : NatSettings) (live : List Outward) (inside dst : Ep) → IsAnswer s live inside dst (answer_of s live inside dst)
answer-is s live inside dst = by_case (same_ip dst.ip s.external) refl
  where
    by_room : (b : Bool) → nat_lt (length live) MAPPINGS_MAX ≡ b → same_ip dst.ip s.external ≡ false → live_port s.kind inside dst live ≡ None → IsAnswer s live inside dst (cond b (Ok (lowest_free live)) (Err Full))
    by_room true r n h = (apart _ _ n, subst (λ (o : Option ℕ). GivesPort o live (lowest_free live)) (sym h) (ltb-true _ _ r, lowest_free-is live))
    by_room false r n h = (apart _ _ n, (h, ltb-false _ _ r))

    by_held : (held : Option ℕ) → live_port s.kind inside dst live ≡ held → same_ip dst.ip s.external ≡ false → IsAnswer s live inside dst (port_for held live)
    by_held (Some port) h n = (apart _ _ n, subst (λ (o : Option ℕ). GivesPort o live port) (sym h) refl)
    by_held None h n = by_room (nat_lt (length live) MAPPINGS_MAX) refl n h

    by_case : (b : Bool) → same_ip dst.ip s.external ≡ b → IsAnswer s live inside dst (cond b (Err Hairpin) (port_for (live_port s.kind inside dst live) live))
    by_case true e = same_ip-true _ _ e
    by_case false e = by_held (live_port s.kind inside dst live) refl e

-- AND THE RELATION GIVES NO OTHER PORT

pub port_for-given : (held : Option ℕ) (live : List Outward) (port : ℕ) → GivesPort held live port → port_for held live ≡ Ok port
port_for-given (Some held) live port g = ap (λ p. Ok p) (sym g)
port_for-given None live port g = cond-true _ _ _ (lt-ltb _ _ g.0) ∙ ap (λ p. Ok p) (lowest-one live _ _ (lowest_free-is live) g.1)

pub port_for-full : (live : List Outward) → MAPPINGS_MAX ≤ length live → port_for None live ≡ Err Full
port_for-full live l = cond-false _ _ _ (le-ltb _ _ l)
