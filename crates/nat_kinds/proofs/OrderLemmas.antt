-- The latest datagram of each key: moments that don't fall make it the same whether age is looked at before or after.
use Rattle.nat_kinds.proofs.Words.{AllByRecursion, Bool, Forget, IsHistory, List, NatEntry, NatKind, NatSettings, Out, Outward, Restart, [], all_map, ap, arith, cond, false, filter, has_key, is_young, kept, latest, latest_moment, le-ltb, le_refl, le_trans, live_after, lt-ltb, ltb-false, ltb-true, nat_lt, not, refl, sym, true, young, ℕ, ◌-◌, ◌<◌, ◌∙◌, ◌∷◌, ◌≡◌, ◌≤◌}
use Rattle.nat_kinds.proofs.ListLemmas.{all_filter, filter_swap, filter_wider}

-- what is young later is young now
pub young_before : (idle m n : ℕ) (e : Outward) → m ≤ n → is_young idle n e ≡ true → is_young idle m e ≡ true
young_before idle m n e l h = let k : n - e.moment.0 < idle = ltb-true _ _ h in lt-ltb _ _ (omega arith)

-- to take out what doesn't count now changes nothing later
pub young-again : (idle m n : ℕ) (outs : List Outward) → m ≤ n → young idle n (young idle m outs) ≡ young idle n outs
young-again idle m n outs l = filter_wider (is_young idle n) (is_young idle m) (λ e h. young_before idle m n e l h) outs

-- the moments don't fall as the history goes on
abbrev InOrder : List Outward → Type 0
InOrder [] = Unit {0}
InOrder (e ∷ outs) = AllByRecursion (λ o. o.moment.0 ≤ e.moment.0) outs × InOrder outs

InOrder-filter : (p : Outward → Bool) (outs : List Outward) → InOrder outs → InOrder (filter p outs)
InOrder-filter p [] o = tt
InOrder-filter p (e ∷ outs) o = elim (p e) as (λ b. InOrder (cond b (e ∷ filter p outs) (filter p outs))) [ true ↦ (all_filter _ p outs o.0, InOrder-filter p outs o.1) | false ↦ InOrder-filter p outs o.1 ]

-- what is kept of a history is not later than its latest moment
pub kept_before : (s : NatSettings) (h : List NatEntry) → IsHistory s h → AllByRecursion (λ o. o.moment.0 ≤ latest_moment h) (kept h)
kept_before s [] i = tt
kept_before s (Out e ∷ h) i = (le_refl e.moment.0, all_map (λ o. o.moment.0 ≤ latest_moment h) (λ o. o.moment.0 ≤ e.moment.0) (kept h) (λ o l. le_trans l i.0) (kept_before s h i.2))
kept_before s (Forget who ∷ h) i = all_filter (λ o. o.moment.0 ≤ latest_moment h) _ (kept h) (kept_before s h i)
kept_before s (Restart ∷ h) i = tt

kept_in_order : (s : NatSettings) (h : List NatEntry) → IsHistory s h → InOrder (kept h)
kept_in_order s [] i = tt
kept_in_order s (Out e ∷ h) i = (all_map (λ o. o.moment.0 ≤ latest_moment h) (λ o. o.moment.0 ≤ e.moment.0) (kept h) (λ o l. le_trans l i.0) (kept_before s h i.2), kept_in_order s h i.2)
kept_in_order s (Forget who ∷ h) i = InOrder-filter _ (kept h) (kept_in_order s h i)
kept_in_order s (Restart ∷ h) i = tt

-- where the latest isn't young, none is
pub none_young : (idle n m : ℕ) (outs : List Outward) → AllByRecursion (λ o. o.moment.0 ≤ m) outs → nat_lt (n - m) idle ≡ false → young idle n outs ≡ []
none_young idle n m [] a y = refl
none_young idle n m (o ∷ outs) a y = rw (old o a.0) (none_young idle n m outs a.1 y)
  where
    old : (o : Outward) → o.moment.0 ≤ m → is_young idle n o ≡ false
    old o l = le-ltb _ _ (let k : idle ≤ n - m = ltb-false _ _ y in omega arith)

young-latest : (kind : NatKind) (idle n : ℕ) (outs : List Outward) → InOrder outs → latest kind (young idle n outs) ≡ young idle n (latest kind outs)
young-latest kind idle n [] o = refl
young-latest kind idle n (e ∷ outs) o = by_young (is_young idle n e) refl (ap (filter others) (young-latest kind idle n outs o.1) ∙ filter_swap others (is_young idle n) (latest kind outs))
  where
    others : Outward → Bool
    others x = not (has_key kind e.inside e.dst x)

    by_young : (b : Bool) → is_young idle n e ≡ b → filter others (latest kind (young idle n outs))
        ≡ young idle n (filter others (latest kind outs)) → latest kind (cond b (e ∷ young idle n outs) (young idle n outs))
        ≡ cond b (e ∷ young idle n (filter others (latest kind outs))) (young idle n (filter others (latest kind outs)))
    by_young true y h = ap (λ xs. e ∷ xs) h
    by_young false y h =
        let none : young idle n outs ≡ [] = none_young idle n e.moment.0 outs o.0 y in
        ap (latest kind) none ∙ sym (ap (λ xs. filter others (latest kind xs)) none) ∙ h

pub live_is_latest : (s : NatSettings) (h : List NatEntry) → IsHistory s h → (n : ℕ) → live_after s h n ≡ young s.idle n (latest s.kind (kept h))
live_is_latest s h i n = young-latest s.kind s.idle n (kept h) (kept_in_order s h i)
