-- Of the nodes at which a tick is due the first one is due no later than any.
use Rattle.theory_reaching.proofs.Words.{Bool, DueNode, Full, Lab, List, Node, None, Option, Some, [], ap, arith, cond, false, false≢true, is_some, least_due, nat_lt, nat_tests, now, option_map, refl, slice_get, subst, suc, sym, tick_due, true, unwrap_or, zero, ℕ, ◌+◌, ◌<◌, ◌∙◌, ◌∷◌, ◌≡◌, ◌≤◌}
use Rattle.legal.specs.Next.{earlier}

-- WHO IS DUE FIRST

-- no later than any node whose tick is due
module _ (lab : Lab) (H : List Full) where
  pub record IsBy (o : Option DueNode) (m : ℕ) : Type 0 where
    pub first : DueNode
    pub is : o ≡ Some first
    pub by : first.moment ≤ m

  abbrev due_at : ℕ → Node → ℕ → DueNode
  due_at i b t = record { moment = t; number = i; node = b }

  same_node : (b a : Node) → Some b ≡ Some a → b ≡ a
  same_node b a e = ap (λ (o : Option Node). unwrap_or o b) e

  sooner : (a b : DueNode) (m : ℕ) → a.moment ≤ m → IsBy (earlier (Some a) (Some b)) m
  sooner a b m le = by (nat_lt b.moment a.moment) refl where
    by : (t : Bool) → nat_lt b.moment a.moment ≡ t → IsBy (cond t (Some b) (Some a)) m
    by true e = let less : b.moment < a.moment = grind (arith, nat_tests, e) in record { first = b; is = refl; by = omega (arith, less, le) }
    by false e = record { first = a; is = refl; by = le }

  sooner_too : (a b : DueNode) (m : ℕ) → b.moment ≤ m → IsBy (earlier (Some a) (Some b)) m
  sooner_too a b m le = by (nat_lt b.moment a.moment) refl where
    by : (t : Bool) → nat_lt b.moment a.moment ≡ t → IsBy (cond t (Some b) (Some a)) m
    by true e = record { first = b; is = refl; by = le }
    by false e = let more : a.moment ≤ b.moment = grind (arith, nat_tests, e) in record { first = a; is = refl; by = omega (arith, more, le) }

  pub least_by : (all : List Node) (i d : ℕ) (a : Node) (m : ℕ) → slice_get all d ≡ Some a → tick_due lab H (now H) (i + d) a ≡ Some m
      → IsBy (least_due lab H i all) m
  least_by [] i d a m at due = absurd (false≢true (ap (λ (o : Option Node). is_some o) at))
  least_by (b ∷ rest) i zero a m at due = by (least_due lab H (i + 1) rest) where
    here : option_map (due_at i b) (tick_due lab H (now H) i b)
        ≡ Some (due_at i b m)
    here = ap (option_map (due_at i b))
        (ap (tick_due lab H (now H) i) (same_node b a at) ∙ (let same : i ≡ i + 0 = omega arith in
        ap (λ (u : ℕ). tick_due lab H (now H) u a) same) ∙ due)

    by : (o : Option DueNode) → IsBy (earlier (option_map (due_at i b) (tick_due lab H (now H) i b)) o) m
    by o = subst (λ (z : Option DueNode). IsBy (earlier z o) m) (sym here) (of o) where
      of : (z : Option DueNode) → IsBy (earlier (Some (due_at i b m)) z) m
      of None = record { first = due_at i b m; is = refl; by = omega arith }
      of (Some z) = sooner (due_at i b m) z m (omega arith)
  least_by (b ∷ rest) i (suc d) a m at due =
      by (option_map (due_at i b) (tick_due lab H (now H) i b))
      (least_by rest (i + 1) d a m at ((let same : (i + 1) + d ≡ i + suc d = omega arith in ap (λ (u : ℕ). tick_due lab H (now H) u a) same) ∙ due)) where
        by : (o : Option DueNode) → IsBy (least_due lab H (i + 1) rest) m → IsBy (earlier o (least_due lab H (i + 1) rest)) m
        by o later = subst (λ (z : Option DueNode). IsBy (earlier o z) m) (sym later.is) (of o) where
          of : (z : Option DueNode) → IsBy (earlier z (Some later.first)) m
          of None = record { first = later.first; is = refl; by = later.by }
          of (Some z) = sooner_too z later.first m later.by
