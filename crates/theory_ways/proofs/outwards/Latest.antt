-- The latest datagram to an endpoint, as a NAT's history grows.
use Rattle.theory_ways.proofs.Words.{Bool, Ep, Forget, Has, List, NatEntry, Option, Out, Outward, Restart, Some, [], ap, cond, false, false≢true, find, inl, inr, is_some, refl, sym, true, unwrap_or, went_to, ◌++◌, ◌∙◌, ◌∷◌, ◌≡◌, ◌⊎◌}

-- a search in two lists finds it in the first, or in the second
pub find_split : (p : NatEntry → Bool) (xs ys : List NatEntry) (x : NatEntry) → find p (xs ++ ys) ≡ Some x → (Has xs x × (p x ≡ true)) ⊎ (find p ys ≡ Some x)
find_split p [] ys x e = inr e
find_split p (y ∷ xs) ys x e = by (p y) refl e (find_split p xs ys x) where
  by : (b : Bool) → p y ≡ b → cond b (Some y) (find p (xs ++ ys)) ≡ Some x → (find p (xs ++ ys) ≡ Some x → (Has xs x × (p x ≡ true)) ⊎ (find p ys ≡ Some x))
      → (Has (y ∷ xs) x × (p x ≡ true)) ⊎ (find p ys ≡ Some x)
  by true h f ih = let same : y ≡ x = ap (λ (o : Option NatEntry). unwrap_or o y) f in inl (inl same, ap p (sym same) ∙ h)
  by false h f ih = more (ih f) where
    more : (Has xs x × (p x ≡ true)) ⊎ (find p ys ≡ Some x) → (Has (y ∷ xs) x × (p x ≡ true)) ⊎ (find p ys ≡ Some x)
    more (inl k) = inl (inr k.0, k.1)
    more (inr k) = inr k

-- one that finds something in the second finds something in both
find_on : (p : NatEntry → Bool) (xs ys : List NatEntry) (x : NatEntry) → find p ys ≡ Some x → (y : NatEntry) × (find p (xs ++ ys) ≡ Some y)
find_on p [] ys x e = (x, e)
find_on p (z ∷ xs) ys x e = by (p z) (find_on p xs ys x e) where
  by : (b : Bool) → (y : NatEntry) × (find p (xs ++ ys) ≡ Some y) → (y : NatEntry) × (cond b (Some z) (find p (xs ++ ys)) ≡ Some y)
  by true ih = (z, refl)
  by false ih = ih

-- what is found went there
went : (dst : Ep) (h : List NatEntry) (y : NatEntry) → find (went_to dst) h ≡ Some y → went_to dst y ≡ true
went dst [] y e = absurd (false≢true (ap (λ (o : Option NatEntry). is_some o) e))
went dst (z ∷ h) y e = by (went_to dst z) refl e (went dst h y) where
  by : (b : Bool) → went_to dst z ≡ b → cond b (Some z) (find (went_to dst) h) ≡ Some y → (find (went_to dst) h ≡ Some y → went_to dst y ≡ true)
      → went_to dst y ≡ true
  by true f g ih = ap (went_to dst) (sym (ap (λ (o : Option NatEntry). unwrap_or o z) g)) ∙ f
  by false f g ih = ih g

-- it is a datagram
out_entry : (dst : Ep) (h : List NatEntry) (y : NatEntry) → find (went_to dst) h ≡ Some y → (d : Outward) × (find (went_to dst) h ≡ Some (Out d))
out_entry dst h (Out d) e = (d, e)
out_entry dst h (Forget who) e = absurd (false≢true (went dst h (Forget who) e))
out_entry dst h Restart e = absurd (false≢true (went dst h Restart e))

-- where one was found, one is found when more was let out
pub still_found : (dst : Ep) (xs ys : List NatEntry) (d : Outward) → find (went_to dst) ys ≡ Some (Out d)
    → (e : Outward) × (find (went_to dst) (xs ++ ys) ≡ Some (Out e))
still_found dst xs ys d at = let f = find_on (went_to dst) xs ys (Out d) at in out_entry dst (xs ++ ys) f.0 f.1

-- and where one was let out
pub found_new : (dst : Ep) (xs ys : List NatEntry) (d : Outward) → Has xs (Out d) → went_to dst (Out d) ≡ true
    → (e : Outward) × (find (went_to dst) (xs ++ ys) ≡ Some (Out e))
found_new dst xs ys d h to = let f = first xs h in out_entry dst (xs ++ ys) f.0 f.1 where
  first : (zs : List NatEntry) → Has zs (Out d) → (y : NatEntry) × (find (went_to dst) (zs ++ ys) ≡ Some y)
  first [] k = absurd k
  first (z ∷ zs) k = by (went_to dst z) refl k (first zs) where
    by : (b : Bool) → went_to dst z ≡ b → Has (z ∷ zs) (Out d) → (Has zs (Out d) → (y : NatEntry) × (find (went_to dst) (zs ++ ys) ≡ Some y))
        → (y : NatEntry) × (cond b (Some z) (find (went_to dst) (zs ++ ys)) ≡ Some y)
    by true e g ih = (z, refl)
    by false e (inl same) ih = absurd (false≢true (sym e ∙ ap (went_to dst) same ∙ to))
    by false e (inr on) ih = ih on
