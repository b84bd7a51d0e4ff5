-- A packet that makes one entry, whose delivery makes one more: the second delivery of a fresh schedule is that of this one.
use Rattle.theory_reaching.proofs.Words.{AreFresh, Bool, BringsTo, BringsWithin, ComesInTime, DeliversFresh, Full, Grown, HasNoFault, Item, Lab, List, Node, Option, Some, SomeBrings, [], ap, arith, false, false≢true, inl, inr, is_number, items_of, last_there, length, nat_tests, on_wire, one_longer, refl, slice_get, suc, sym, true, was_delivered, wire, ℕ, ◌++◌, ◌<◌, ◌==◌, ◌||◌, ◌∙◌, ◌∷◌, ◌≡◌, ◌≤◌}
use Rattle.std.proofs.Common.{append-nil}
use Rattle.theory_reaching.proofs.clients.Straight.{delivers_it}

-- the first two of these records
pub record Two (lab : Lab) (H : List Full) (q : Full) (later : List Full) : Type 0 where
  pub rest : List Full
  pub second : Full
  pub first : Full
  pub split : later ≡ rest ++ second ∷ first ∷ []
  pub grown : Grown lab (second ∷ first ∷ q ∷ H)
  pub fresh : AreFresh q (second ∷ first ∷ [])

two_of : (lab : Lab) (H : List Full) (q s p : Full) (later : List Full) → Grown lab (s ∷ p ∷ later ++ q ∷ H) → AreFresh q (s ∷ p ∷ later)
    → Two lab H q (s ∷ p ∷ later)
two_of lab H q s p [] g fresh = record { rest = []; second = s; first = p; split = refl; grown = g; fresh = fresh }
two_of lab H q s p (r ∷ later) g fresh =
    let t = two_of lab H q p r later g.1 fresh.1 in
    record { rest = s ∷ t.rest; second = t.second; first = t.first; split = ap (λ (z : List Full). s ∷ z) t.split; grown = t.grown; fresh = t.fresh }

-- one entry more is the last
pub one_item : (H : List Full) (q : Full) (x : Item) (n : ℕ) → n ≡ length (wire H) → items_of q ≡ x ∷ []
    → (slice_get (wire (q ∷ H)) n ≡ Some x) × (length (wire (q ∷ H)) ≡ suc n)
one_item H q x n same items = (
  ap (λ (xs : List Item). slice_get (wire H ++ xs) n) items ∙ ap (slice_get (wire H ++ x ∷ [])) same ∙ last_there (wire H) x,
  ap (λ (xs : List Item). length (wire H ++ xs)) items ∙ one_longer (wire H) x ∙ ap suc (sym same),
)

-- after H the record q makes one item alone, and the record that delivers it the second one
pub record OneMakesTwo : Type 0 where
  pub lab : Lab
  pub H : List Full
  pub q : Full
  pub one : Item
  pub two : Item
  pub number : q.first ≡ length (wire H)
  pub makes : items_of q ≡ one ∷ []
  pub goes_on : (p : Full) → Grown lab (p ∷ q ∷ H) → HasNoFault p → p.delivered ≡ Some q.first → slice_get (wire (q ∷ H)) q.first ≡ Some one
      → items_of p ≡ two ∷ []

module _ (the : OneMakesTwo) where
  open the use {lab, H, q, one, two, number, makes, goes_on}

  first_one : (slice_get (wire (q ∷ H)) q.first ≡ Some one) × (length (wire (q ∷ H)) ≡ suc q.first)
  first_one = one_item H q one q.first number makes

  -- THE SECOND

  module _ (p : Full) (g : Grown lab (p ∷ q ∷ H)) (fresh : DeliversFresh q [] p) where
    its : p.delivered ≡ Some q.first
    its = delivers_it lab H q p g fresh first_one.1

    second_one : (slice_get (wire (p ∷ q ∷ H)) (suc q.first) ≡ Some two) × (length (wire (p ∷ q ∷ H)) ≡ suc (suc q.first))
    second_one = one_item (q ∷ H) p two (suc q.first) (sym first_one.1) (goes_on p g fresh.sound its first_one.0)

    -- the first one was delivered
    other : (k : ℕ) → was_delivered k (p ∷ []) ≡ false → k ≡ q.first → ⊥
    other k none same =
        let it : (q.first == k) ≡ true = grind (arith, nat_tests) in
        false≢true (sym none ∙ ap (λ (o : Option ℕ). is_number k o || false) its ∙ ap (λ (c : Bool). c || false) it)

    -- so a second delivery is of the other one
    delivers_second : (s : Full) → Grown lab (s ∷ p ∷ q ∷ H) → DeliversFresh q (p ∷ []) s → s.delivered ≡ Some (suc q.first)
    delivers_second s grown again =
        let within : again.number < length (wire (p ∷ q ∷ H)) = on_wire lab (p ∷ q ∷ H) s again.number grown again.delivered in
        let new : q.first ≤ again.number = again.new in
        again.delivered ∙ ap (λ (k : ℕ). Some k)
        (the_one again.number q.first (length (wire (p ∷ q ∷ H))) within second_one.1 new (other again.number again.once)) where
          the_one : (k first len : ℕ) → k < len → len ≡ suc (suc first) → first ≤ k → (k ≡ first → ⊥) → k ≡ suc first
          the_one k first len less same low unlike = by (k == first) refl where
            by : (c : Bool) → (k == first) ≡ c → k ≡ suc first
            by true e = let one : k ≡ first = grind (arith, nat_tests) in absurd (unlike one)
            by false e = grind (arith, nat_tests)

  -- what is so of the second delivery, and of the record before it
  abbrev OfSecond : (Full → Full → Type 0) → Type 0
  OfSecond P = (s p : Full) → Grown lab (s ∷ p ∷ q ∷ H) → HasNoFault p → p.delivered ≡ Some q.first → slice_get (wire (q ∷ H)) q.first ≡ Some one
      → s.delivered ≡ Some (suc q.first) → slice_get (wire (p ∷ q ∷ H)) (suc q.first) ≡ Some two → P s p

  of_second : (P : Full → Full → Type 0) → OfSecond P → (s p : Full) → Grown lab (s ∷ p ∷ q ∷ H) → AreFresh q (s ∷ p ∷ []) → P s p
  of_second P law s p g fresh = law s p g fresh.1.0.sound (its p g.1 fresh.1.0) first_one.0
      (delivers_second p g.1 fresh.1.0 s g fresh.0) (second_one p g.1 fresh.1.0).0

  -- IT BRINGS THE PACKET

  module _ (m : ℕ) (b : Node) (x : List ℕ) (brings : OfSecond (λ (s p : Full). BringsTo m b x s)) where
    some : (s p : Full) (later : List Full) → Grown lab (s ∷ p ∷ later ++ q ∷ H) → AreFresh q (s ∷ p ∷ later) → BringsWithin 2 m b x (s ∷ p ∷ later)
    some s p later g fresh =
        let t = two_of lab H q s p later g fresh in
        record {
          rest = t.rest;
          first = t.second ∷ t.first ∷ [];
          split = t.split;
          few = omega arith;
          comes = inl (of_second (λ (s p : Full). BringsTo m b x s) brings t.second t.first t.grown t.fresh);
        }

    less : (n len : ℕ) → len ≡ suc n → n < len
    less n len same = omega (arith, same)

    pub second_brings : (later : List Full) → Grown lab (later ++ q ∷ H) → AreFresh q later → ComesInTime H q m b x later 2
    second_brings [] g fresh = record {
      whole = λ complete. absurd (false≢true (complete q.first (omega arith) (less q.first (length (wire (q ∷ H))) first_one.1)));
      enough = λ short many. absurd (let two : 2 ≤ 0 = many in omega (arith, two));
    }
    second_brings (p ∷ []) g fresh = record {
      whole = λ complete. absurd (false≢true (sym (not_yet p g fresh)
          ∙ complete (suc q.first) (omega arith) (less (suc q.first) (length (wire (p ∷ q ∷ H))) (second_one p g fresh.0).1)));
      enough = λ short many. absurd (let two : 2 ≤ 1 = many in omega (arith, two));
    } where
      not_yet : (p : Full) (g : Grown lab (p ∷ q ∷ H)) (fresh : AreFresh q (p ∷ [])) → was_delivered (suc q.first) (p ∷ []) ≡ false
      not_yet p g fresh =
          let fails : (q.first == suc q.first) ≡ false = grind (arith, nat_tests) in
          ap (λ (o : Option ℕ). is_number (suc q.first) o || false) (its p g fresh.0) ∙ ap (λ (c : Bool). c || false) fails
    second_brings (s ∷ p ∷ later) g fresh = record { whole = λ complete. some s p later g fresh; enough = λ short many. some s p later g fresh }

  -- IT MAKES NOTHING, AND NEITHER BRINGS THE PACKET

  module _ (m : ℕ) (b : Node) (x : List ℕ) (ends : OfSecond (λ (s p : Full). (items_of s ≡ []) × (BringsTo m b x s → ⊥)))
      (silent : (p : Full) → Grown lab (p ∷ q ∷ H) → HasNoFault p → p.delivered ≡ Some q.first
      → slice_get (wire (q ∷ H)) q.first ≡ Some one → BringsTo m b x p → ⊥) where
    abbrev Ends : Full → Full → Type 0
    Ends s p = (items_of s ≡ []) × (BringsTo m b x s → ⊥)

    -- so there is no third one
    third : (t s p : Full) → Grown lab (t ∷ s ∷ p ∷ q ∷ H) → AreFresh q (t ∷ s ∷ p ∷ []) → ⊥
    third t s p g fresh =
        let nothing = (of_second Ends ends s p g.1 fresh.1).0 in
        let k = fresh.0.number in
        let within : k < length (wire (s ∷ p ∷ q ∷ H)) = on_wire lab (s ∷ p ∷ q ∷ H) t k g fresh.0.delivered in
        let long = ap (λ (xs : List Item). length (wire (p ∷ q ∷ H) ++ xs)) nothing ∙ ap (λ (xs : List Item). length xs) (append-nil (wire (p ∷ q ∷ H)))
        ∙ (second_one p g.1.1 fresh.1.1.0).1 in
        let none : ((suc q.first == k) || ((q.first == k) || false)) ≡ false =
        sym (ap (λ (o : Option ℕ). is_number k o || ((q.first == k) || false)) (delivers_second p g.1.1 fresh.1.1.0 s g.1 fresh.1.0))
        ∙ sym (ap (λ (o : Option ℕ). is_number k s.delivered || (is_number k o || false)) (its p g.1.1 fresh.1.1.0)) ∙ fresh.0.once in
        beyond k q.first (length (wire (s ∷ p ∷ q ∷ H))) within long fresh.0.new (suc q.first == k) (q.first == k) refl refl none
      where
        beyond : (k first len : ℕ) → k < len → len ≡ suc (suc first) → first ≤ k → (c e : Bool) → (suc first == k) ≡ c → (first == k) ≡ e
            → (c || (e || false)) ≡ false → ⊥
        beyond k first len less same low true e is other none = false≢true (sym none)
        beyond k first len less same low false true is other none = false≢true (sym none)
        beyond k first len less same low false false is other none = apart k first (λ one. false≢true (sym is ∙ (let it : (suc first == k) ≡ true =
            grind (arith, nat_tests) in it))) (λ one. false≢true (sym other ∙ (let it : (first == k) ≡ true = grind (arith, nat_tests) in it)))
            (let n : k < len = less in let l : len ≡ suc (suc first) = same in omega (arith, n, l)) low where
              apart : (k first : ℕ) → (k ≡ suc first → ⊥) → (k ≡ first → ⊥) → k < suc (suc first) → first ≤ k → ⊥
              apart k first a b few low = by (k == first) refl where
                by : (c : Bool) → (k == first) ≡ c → ⊥
                by true e = let one : k ≡ first = grind (arith, nat_tests) in b one
                by false e = let one : k ≡ suc first = grind (arith, nat_tests) in a one

    -- the first three of more
    no_more : (t s p : Full) (later : List Full) → Grown lab (t ∷ s ∷ p ∷ later ++ q ∷ H) → AreFresh q (t ∷ s ∷ p ∷ later) → ⊥
    no_more t s p [] g fresh = third t s p g fresh
    no_more t s p (r ∷ later) g fresh = no_more s p r later g.1 fresh.1

    pub neither_brings : (later : List Full) → Grown lab (later ++ q ∷ H) → AreFresh q later → SomeBrings m b x later → ⊥
    neither_brings [] g fresh come = come
    neither_brings (p ∷ []) g fresh (inl it) = silent p g fresh.0.sound (its p g fresh.0) first_one.0 it
    neither_brings (p ∷ []) g fresh (inr come) = come
    neither_brings (s ∷ p ∷ []) g fresh (inl it) = (of_second Ends ends s p g fresh).1 it
    neither_brings (s ∷ p ∷ []) g fresh (inr (inl it)) = silent p g.1 fresh.1.0.sound (its p g.1 fresh.1.0) first_one.0 it
    neither_brings (s ∷ p ∷ []) g fresh (inr (inr come)) = come
    neither_brings (t ∷ s ∷ p ∷ later) g fresh come = no_more t s p later g fresh
