-- The touches of a node, of which each is of another peer.
use Rattle.load_keeper.proofs.Words.{Bool, Ip6, IsTouchAt, List, Millis, None, Option, Some, Touch, [], add-one, ap, are_apart, arith, drop, false, filter, find, get_or, get_or_read_under, if◌then◌else◌, is_some, length, not, refl, same_ip6, same_ip6-self, same_ip6-true, subst, suc, sym, take, touches_peer, true, zero, ℕ, ◌&&◌, ◌++◌, ◌+◌, ◌<◌, ◌∙◌, ◌∷◌, ◌≡◌}
use Rattle.load_keeper.proofs.Lists.{find_before, find_none}

-- one is the other, from either side
pub same_turned : (p q : Ip6) → same_ip6 p q ≡ same_ip6 q p
same_turned p q = by (same_ip6 p q) refl (same_ip6 q p) refl where
  by : (b : Bool) → same_ip6 p q ≡ b → (c : Bool) → same_ip6 q p ≡ c → same_ip6 p q ≡ same_ip6 q p
  by true is true turned = is ∙ sym turned
  by false is false turned = is ∙ sym turned
  by true is false turned = let e : p ≡ q = same_ip6-true p q is in let f : true ≡ false = sym (same_ip6-self q) ∙ ap (λ (x : Ip6). same_ip6 q x) (sym e) ∙ turned in absurd (cc f)
  by false is true turned = let e : q ≡ p = same_ip6-true q p turned in let f : true ≡ false = sym (same_ip6-self p) ∙ ap (λ (x : Ip6). same_ip6 p x) (sym e) ∙ is in absurd (cc f)

-- WHAT HAS NONE OF IT

pub none_passes : (f : Touch → Bool) (ts : List Touch) → find f ts ≡ None → filter (λ (t : Touch). not (f t)) ts ≡ ts
none_passes f [] none = refl
none_passes f (t ∷ ts) none = by (none_passes f ts) (f t) refl none where
  by : (find f ts ≡ None → filter (λ (x : Touch). not (f x)) ts ≡ ts) → (b : Bool) → f t ≡ b → find f (t ∷ ts) ≡ None → filter (λ (x : Touch). not (f x)) (t ∷ ts) ≡ t ∷ ts
  by more true is none = let e : Some t ≡ None = rw is at none in absurd (cc e)
  by more false is none = rw is (ap (λ (xs : List Touch). t ∷ xs) (more (rw is at none)))

none_among : (f g : Touch → Bool) (ts : List Touch) → find f ts ≡ None → find f (filter g ts) ≡ None
none_among f g [] none = refl
none_among f g (t ∷ ts) none = by (none_among f g ts) (f t) refl none (g t) refl where
  by : (find f ts ≡ None → find f (filter g ts) ≡ None) → (b : Bool) → f t ≡ b → find f (t ∷ ts) ≡ None → (c : Bool) → g t ≡ c → find f (filter g (t ∷ ts)) ≡ None
  by more true is none c kept = let e : Some t ≡ None = rw is at none in absurd (cc e)
  by more false is none true kept = rw (kept, is) (more (rw is at none))
  by more false is none false kept = rw kept (more (rw is at none))

-- EACH OF ANOTHER PEER

apart_at : (t : Touch) (ts : List Touch) → are_apart (t ∷ ts) ≡ true → (find (touches_peer t.who) ts ≡ None) × (are_apart ts ≡ true)
apart_at t ts is = by (find (touches_peer t.who) ts) refl is where
  by : (o : Option Touch) → find (touches_peer t.who) ts ≡ o → not (is_some o) && are_apart ts ≡ true → (find (touches_peer t.who) ts ≡ None) × (are_apart ts ≡ true)
  by None none is = (none, is)
  by (Some x) some is = absurd (cc is)

apart_with : (t : Touch) (ts : List Touch) → find (touches_peer t.who) ts ≡ None → are_apart ts ≡ true → are_apart (t ∷ ts) ≡ true
apart_with t ts none apart = rw (none, apart) refl

apart_among : (g : Touch → Bool) (ts : List Touch) → are_apart ts ≡ true → are_apart (filter g ts) ≡ true
apart_among g [] apart = refl
apart_among g (t ∷ ts) apart = by (apart_among g ts (apart_at t ts apart).1) (g t) refl where
  by : are_apart (filter g ts) ≡ true → (b : Bool) → g t ≡ b → are_apart (filter g (t ∷ ts)) ≡ true
  by more true kept = rw kept (apart_with t (filter g ts) (none_among (touches_peer t.who) g ts (apart_at t ts apart).0) more)
  by more false kept = rw kept more

apart_behind : (ts : List Touch) (y : Touch) → are_apart ts ≡ true → find (touches_peer y.who) ts ≡ None → are_apart (ts ++ y ∷ []) ≡ true
apart_behind [] y apart none = refl
apart_behind (t ∷ ts) y apart none = by (apart_behind ts y (apart_at t ts apart).1) (touches_peer y.who t) refl none where
  by : (find (touches_peer y.who) ts ≡ None → are_apart (ts ++ y ∷ []) ≡ true) → (b : Bool) → touches_peer y.who t ≡ b → find (touches_peer y.who) (t ∷ ts) ≡ None → are_apart ((t ∷ ts) ++ y ∷ []) ≡ true
  by more true is none = let e : Some t ≡ None = rw is at none in absurd (cc e)
  by more false is none =
      apart_with t (ts ++ y ∷ []) (find_before (touches_peer t.who) ts y (same_turned t.who y.who ∙ is) ∙ (apart_at t ts apart).0) (more (rw is at none))

-- so they are with the latest touch of a peer behind the others, or without it
pub apart_pushed : (p : Ip6) (m : Millis) (ts others new : List Touch) (b : Bool) → are_apart ts ≡ true → others ≡ filter (λ (t : Touch). not (touches_peer p t)) ts
    → new ≡ (if b then others ++ record { who = p; at = m } ∷ [] else others) → are_apart new ≡ true
apart_pushed p m ts others new b apart are is = rw (is, are) (by b) where
  left : are_apart (filter (λ (t : Touch). not (touches_peer p t)) ts) ≡ true
  left = apart_among (λ (t : Touch). not (touches_peer p t)) ts apart

  by : (b : Bool) → are_apart (if b then filter (λ (t : Touch). not (touches_peer p t)) ts ++ record { who = p; at = m } ∷ [] else filter (λ (t : Touch). not (touches_peer p t)) ts) ≡ true
  by false = left
  by true = apart_behind (filter (λ (t : Touch). not (touches_peer p t)) ts) (record { who = p; at = m }) left
      (find_none (touches_peer p) (λ (t : Touch). not (touches_peer p t)) (λ t is. ap not is) ts)

-- THE TOUCH OF A PEER

module _ (p : Ip6) (d : Touch) where
  -- the touch of a peer is what is found
  pub found_at : (ts : List Touch) (i : ℕ) → are_apart ts ≡ true → i < length ts → touches_peer p (get_or ts i d) ≡ true → find (touches_peer p) ts ≡ Some (get_or ts i d)
  found_at [] i apart lt is = absurd (omega (arith, lt))
  found_at (t ∷ ts) zero apart lt is = rw is refl
  found_at (t ∷ ts) (suc i) apart lt is = by (found_at ts i (apart_at t ts apart).1 (omega (arith, lt)) is) (touches_peer p t) refl where
    by : find (touches_peer p) ts ≡ Some (get_or ts i d) → (b : Bool) → touches_peer p t ≡ b → find (touches_peer p) (t ∷ ts) ≡ Some (get_or ts i d)
    by more false other = rw other more
    by more true same = let e : t.who ≡ p = sym (same_ip6-true p t.who same) in
        let none : find (touches_peer p) ts ≡ None = subst (λ (q : Ip6). find (touches_peer q) ts ≡ None) e (apart_at t ts apart).0 in
        let f : Some (get_or ts i d) ≡ None = sym more ∙ none in absurd (cc f)

  -- and without it are all others
  others_at : (ts : List Touch) (i : ℕ) → are_apart ts ≡ true → i < length ts → touches_peer p (get_or ts i d) ≡ true → filter (λ (t : Touch). not (touches_peer p t)) ts ≡ take i ts ++ drop (suc i) ts
  others_at [] i apart lt is = absurd (omega (arith, lt))
  others_at (t ∷ ts) zero apart lt is = let e : t.who ≡ p = sym (same_ip6-true p t.who is) in
      rw is (none_passes (touches_peer p) ts (subst (λ (q : Ip6). find (touches_peer q) ts ≡ None) e (apart_at t ts apart).0))
  others_at (t ∷ ts) (suc i) apart lt is = by (others_at ts i (apart_at t ts apart).1 (omega (arith, lt)) is) (touches_peer p t) refl where
    found : find (touches_peer p) ts ≡ Some (get_or ts i d)
    found = found_at ts i (apart_at t ts apart).1 (omega (arith, lt)) is

    by : filter (λ (x : Touch). not (touches_peer p x)) ts ≡ take i ts ++ drop (suc i) ts → (b : Bool) → touches_peer p t ≡ b
        → filter (λ (x : Touch). not (touches_peer p x)) (t ∷ ts) ≡ t ∷ (take i ts ++ drop (suc i) ts)
    by more false other = rw other (ap (λ (xs : List Touch). t ∷ xs) more)
    by more true same = let e : t.who ≡ p = sym (same_ip6-true p t.who same) in
        let none : find (touches_peer p) ts ≡ None = subst (λ (q : Ip6). find (touches_peer q) ts ≡ None) e (apart_at t ts apart).0 in
        let f : Some (get_or ts i d) ≡ None = sym found ∙ none in absurd (cc f)

module _ (p : Ip6) (ts : List Touch) (i : ℕ) (apart : are_apart ts ≡ true) (the : IsTouchAt p ts i) where
  it_is : touches_peer p (get_or ts i the.touch) ≡ true
  it_is = ap (touches_peer p) the.at ∙ the.is

  pub found_is : (t : Touch) → t ≡ get_or ts i t → Some t ≡ find (touches_peer p) ts
  found_is t read = ap Some (get_or_read_under ts i (length ts) t the.touch read the.within refl) ∙ sym (found_at p the.touch ts i apart the.within it_is)

  pub others_are : (left : List Touch) → left ≡ take i ts ++ drop (i + 1) ts → left ≡ filter (λ (t : Touch). not (touches_peer p t)) ts
  others_are left is = is ∙ ap (λ (k : ℕ). take i ts ++ drop k ts) (add-one i) ∙ sym (others_at p the.touch ts i apart the.within it_is)

  pub apart_without : (left : List Touch) → left ≡ take i ts ++ drop (i + 1) ts → are_apart left ≡ true
  apart_without left is = subst (λ (xs : List Touch). are_apart xs ≡ true) (sym (others_are left is)) (apart_among (λ (t : Touch). not (touches_peer p t)) ts apart)
