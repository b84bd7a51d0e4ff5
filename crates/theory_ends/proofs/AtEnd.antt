-- Where a load is in the end, and where it is not.
use Rattle.theory_ends.proofs.Words.{AllByRecursion, Arrived, Bool, End, Full, HeldAt, Ip6, List, Load, Lost, Mention, Node, None, OnWire, Option, Peer, Some, WaitsAt, [], ap, arith, false, first_node, has_arrived, is_listed, is_load, known, lasts, list_any, listed, listed_are, load_at, no_peer, not, open_entry, option_map, option_or, refl, same_ip6, same_ip6-true, slice_get, subst, suc, sym, true, unlisted, unwrap_or, was_delivered, zero, ℕ, ◌&&◌, ◌+◌, ◌∙◌, ◌∷◌, ◌≡◌, ◌≤◌}
use Rattle.theory_ends.proofs.Handed.{same_is, same_itself}

-- THE WORDS OF AN END

-- a load that is lost arrived never, and is nowhere
pub record LostParts (x w h o y : Option ℕ) (j : ℕ) : Type 0 where
  pub no_arrival : x ≡ None
  pub waits_nowhere : w ≡ None
  pub held_nowhere : h ≡ None
  pub none_open : o ≡ None
  pub last_said : y ≡ Some j

abbrev pub end_by : (x w h o y : Option ℕ) → Option End
end_by x w h o y = option_or (option_map Arrived x) (option_or (option_map WaitsAt w) (option_or (option_map HeldAt h) (option_or (option_map OnWire o) (option_map Lost y))))

pub lost_parts : (x w h o y : Option ℕ) (j : ℕ) → end_by x w h o y ≡ Some (Lost j) → LostParts x w h o y j
lost_parts (Some k) w h o y j is = absurd (cc is)
lost_parts None (Some k) h o y j is = absurd (cc is)
lost_parts None None (Some k) o y j is = absurd (cc is)
lost_parts None None None (Some k) y j is = absurd (cc is)
lost_parts None None None None None j is = absurd (cc is)
lost_parts None None None None (Some k) j is = record { no_arrival = refl; waits_nowhere = refl; held_nowhere = refl; none_open = refl; last_said = cc is }

pub arrived_part : (x w h o y : Option ℕ) (j : ℕ) → end_by x w h o y ≡ Some (Arrived j) → x ≡ Some j
arrived_part (Some k) w h o y j is = cc is
arrived_part None (Some k) h o y j is = absurd (cc is)
arrived_part None None (Some k) o y j is = absurd (cc is)
arrived_part None None None (Some k) y j is = absurd (cc is)
arrived_part None None None None (Some k) j is = absurd (cc is)
arrived_part None None None None None j is = absurd (cc is)

pub no_arrival_part : (x w h o y : Option ℕ) → has_arrived (end_by x w h o y) ≡ false → x ≡ None
no_arrival_part None w h o y not = refl
no_arrival_part (Some k) w h o y not = absurd (cc not)

-- NODES

-- where no node is found, none passes
pub none_passes : (test : ℕ → Node → Bool) (n : ℕ) (ns : List Node) → first_node test n ns ≡ None → (i : ℕ) (a : Node) → slice_get ns i ≡ Some a → test (n + i) a ≡ false
none_passes test n [] none i a there = absurd (cc there)
none_passes test n (b ∷ ns) none i a there = by (none_passes test (n + 1) ns) (test n b) refl i there where
  by : (first_node test (n + 1) ns ≡ None → (k : ℕ) (x : Node) → slice_get ns k ≡ Some x → test (n + 1 + k) x ≡ false)
      → (c : Bool) → test n b ≡ c → (i : ℕ) → slice_get (b ∷ ns) i ≡ Some a → test (n + i) a ≡ false
  by more true is i there = let e : Some n ≡ None = rw is at none in absurd (cc e)
  by more false is zero there = let same : b ≡ a = cc there in let e : n + 0 ≡ n = omega arith in subst (λ (k : ℕ). test k a ≡ false) (sym e) (subst (λ (x : Node). test n x ≡ false) same is)
  by more false is (suc i) there = let e : n + 1 + i ≡ n + suc i = omega arith in subst (λ (k : ℕ). test k a ≡ false) e (more (rw is at none) i a there)

pub none_found : (test : ℕ → Node → Bool) (n : ℕ) (ns : List Node) → ((i : ℕ) (a : Node) → slice_get ns i ≡ Some a → test (n + i) a ≡ false) → first_node test n ns ≡ None
none_found test n [] each = refl
none_found test n (b ∷ ns) each = rw (first, none_found test (n + 1) ns rest) refl where
  first : test n b ≡ false
  first = let e : n + 0 ≡ n = omega arith in subst (λ (k : ℕ). test k b ≡ false) e (each 0 b refl)

  rest : (i : ℕ) (a : Node) → slice_get ns i ≡ Some a → test (n + 1 + i) a ≡ false
  rest i a there = let e : n + suc i ≡ n + 1 + i = omega arith in subst (λ (k : ℕ). test k a ≡ false) e (each (suc i) a there)

-- LISTS OF WHICH NONE PASSES

module _ {A : Type 0} (f : A → Bool) where
  pub none_of_any : (xs : List A) → list_any f xs ≡ false → AllByRecursion (λ (x : A). f x ≡ false) xs
  none_of_any [] none = tt
  none_of_any (x ∷ xs) none = by (none_of_any xs) (f x) refl where
    by : (list_any f xs ≡ false → AllByRecursion (λ (y : A). f y ≡ false) xs) → (b : Bool) → f x ≡ b → (f x ≡ false) × AllByRecursion (λ (y : A). f y ≡ false) xs
    by more true is = let e : true ≡ false = rw is at none in absurd (cc e)
    by more false is = (is, more (rw is at none))

  pub any_of_none : (xs : List A) → AllByRecursion (λ (x : A). f x ≡ false) xs → list_any f xs ≡ false
  any_of_none [] all = refl
  any_of_none (x ∷ xs) all = rw all.0 (any_of_none xs all.1)

-- none of a list passes, and so not what is the same as one of it
not_at : (f : Ip6 → Bool) (p : Ip6) (ps : List Ip6) → list_any f ps ≡ false → list_any (same_ip6 p) ps ≡ true → f p ≡ false
not_at f p [] none is_one = absurd (cc is_one)
not_at f p (q ∷ ps) none is_one = by (not_at f p ps) (f q) refl (same_ip6 p q) refl where
  by : (list_any f ps ≡ false → list_any (same_ip6 p) ps ≡ true → f p ≡ false) → (b : Bool) → f q ≡ b → (c : Bool) → same_ip6 p q ≡ c → f p ≡ false
  by more true is c same = let e : true ≡ false = rw is at none in absurd (cc e)
  by more false is true same = ap f (same_ip6-true p q same) ∙ is
  by more false is false same = more (rw is at none) (rw same at is_one)

-- PEERS

-- what isn't known of a peer that is listed at n is known of none at n or later
module _ (j : List Mention) (n : ℕ) (bad : Peer → Bool) (not_nobody : bad no_peer ≡ false) (none : list_any (λ (p : Ip6). bad (known j n p)) (listed j n) ≡ false) where
  at_once : (p : Ip6) → bad (known j n p) ≡ false
  at_once p = by (is_listed p n j) refl where
    by : (b : Bool) → is_listed p n j ≡ b → bad (known j n p) ≡ false
    by true is = not_at (λ (q : Ip6). bad (known j n q)) p (listed j n) none (listed_are j n p ∙ is)
    by false is = ap bad (unlisted j n p is) ∙ not_nobody

  pub at_any_time : (m : ℕ) (p : Ip6) → n ≤ m → bad (known j m p) ≡ false
  at_any_time m p le = by (is_listed p m j) refl where
    by : (b : Bool) → is_listed p m j ≡ b → bad (known j m p) ≡ false
    by true is = ap (λ (o : Option Peer). bad (unwrap_or o no_peer)) (lasts j n m p le is) ∙ at_once p
    by false is = ap bad (unlisted j m p is) ∙ not_nobody

-- THE WIRE

-- where no entry is found, each that carries the load was delivered
pub each_delivered : (H : List Full) (l : Load) (i : ℕ) (xs : List (Option Load)) → open_entry H l i xs ≡ None → (e : ℕ) → load_at xs e ≡ Some l → was_delivered (i + e) H ≡ true
each_delivered H l i [] none e is = absurd (cc is)
each_delivered H l i (x ∷ xs) none e is = by (each_delivered H l (i + 1) xs) (is_load l x && not (was_delivered i H)) refl e is where
  at : (d : Bool) → was_delivered i H ≡ d → x ≡ Some l → (is_load l x && not (was_delivered i H)) ≡ false → was_delivered i H ≡ true
  at true was same passes = was
  at false was same passes = let e : true ≡ false = sym (rw (same, was, same_itself l) refl) ∙ passes in absurd (cc e)

  by : (open_entry H l (i + 1) xs ≡ None → (k : ℕ) → load_at xs k ≡ Some l → was_delivered (i + 1 + k) H ≡ true)
      → (b : Bool) → (is_load l x && not (was_delivered i H)) ≡ b → (e : ℕ) → load_at (x ∷ xs) e ≡ Some l → was_delivered (i + e) H ≡ true
  by more true passes e is = let z : Some i ≡ None = rw passes at none in absurd (cc z)
  by more false passes zero is = let k : i ≡ i + 0 = omega arith in subst (λ (n : ℕ). was_delivered n H ≡ true) k (at (was_delivered i H) refl is passes)
  by more false passes (suc e) is = let k : i + 1 + e ≡ i + suc e = omega arith in subst (λ (n : ℕ). was_delivered n H ≡ true) k (more (rw passes at none) e is)

pub none_open : (H : List Full) (l : Load) (i : ℕ) (xs : List (Option Load)) → ((e : ℕ) → load_at xs e ≡ Some l → was_delivered (i + e) H ≡ true) → open_entry H l i xs ≡ None
none_open H l i [] each = refl
none_open H l i (x ∷ xs) each = rw (first, none_open H l (i + 1) xs rest) refl where
  by : (o : Option Load) → x ≡ o → (b : Bool) → is_load l o ≡ b → (b && not (was_delivered i H)) ≡ false
  by o at false is = refl
  by None at true is = absurd (cc is)
  by (Some k) at true is =
      let e : i + 0 ≡ i = omega arith in
      ap not (subst (λ (n : ℕ). was_delivered n H ≡ true) e (each 0 (at ∙ ap Some (sym (same_is l k is)))))

  first : (is_load l x && not (was_delivered i H)) ≡ false
  first = by x refl (is_load l x) refl

  rest : (e : ℕ) → load_at xs e ≡ Some l → was_delivered (i + 1 + e) H ≡ true
  rest e is = let k : i + suc e ≡ i + 1 + e = omega arith in subst (λ (n : ℕ). was_delivered n H ≡ true) k (each (suc e) is)
