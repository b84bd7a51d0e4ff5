-- What is so of each entry that comes of a packet, and of what its deliveries leave, is so throughout a fresh schedule. So where no
-- delivery of such an entry brings the packet none does.
use Rattle.theory_reaching.proofs.Words.{AllByRecursion, AreFresh, BringsTo, Full, Grown, HasNoFault, Item, Lab, List, Node, None, Option, Some, SomeBrings, [], ap, arith, false≢true, get_or, inl, inr, is_some, items_of, length, on_wire, slice_get, slice_get_cases, slice_get_within, subst, suc, unwrap_or, wire, zero, ℕ, ◌++◌, ◌<◌, ◌∷◌, ◌≡◌, ◌≤◌, ◌⊎◌}

-- AN ENTRY OF A LIST

module _ (P : Item → Type 0) where
  same_item : (x y : Item) → Some x ≡ Some y → x ≡ y
  same_item x y e = ap (λ (o : Option Item). unwrap_or o x) e

  pub one_of : (ys : List Item) (k : ℕ) (y : Item) → slice_get ys k ≡ Some y → AllByRecursion P ys → P y
  one_of [] k y e all = absurd (false≢true (ap (λ (o : Option Item). is_some o) e))
  one_of (z ∷ ys) zero y e all = subst P (same_item z y e) all.0
  one_of (z ∷ ys) (suc k) y e all = one_of ys k y e all.1

  -- it was there before, or is one of those that came
  pub there_or_new : (xs ys : List Item) (k : ℕ) (y : Item) → slice_get (xs ++ ys) k ≡ Some y → AllByRecursion P ys → (slice_get xs k ≡ Some y) ⊎ P y
  there_or_new [] ys k y e all = inr (one_of ys k y e all)
  there_or_new (x ∷ xs) ys zero y e all = inl e
  there_or_new (x ∷ xs) ys (suc k) y e all = there_or_new xs ys k y e all

-- THE SCHEDULE

-- after G the record p delivers an item, which is y
pub record OneDelivery (lab : Lab) : Type 0 where
  pub G : List Full
  pub p : Full
  pub serial : ℕ
  pub y : Item
  pub g : Grown lab (p ∷ G)
  pub delivered : p.delivered ≡ Some serial
  pub at : slice_get (wire G) serial ≡ Some y

-- no delivery of a fresh schedule after q brings the packet x to node m, which is b
abbrev pub NoneBrings : Lab → List Full → Full → ℕ → Node → List ℕ → Type 0
NoneBrings lab H q m b x = (later : List Full) → Grown lab (later ++ q ∷ H) → AreFresh q later → SomeBrings m b x later → ⊥

-- P is so of each entry, and J of the records so far
module _ (lab : Lab) (H : List Full) (q : Full) (m : ℕ) (b : Node) (x : List ℕ) (P : Item → Type 0) (J : List Full → Type 0) where
  -- of each entry from the first one on that the packet's record made
  abbrev pub Each : List Full → Type 0
  Each G = (k : ℕ) (y : Item) → q.first ≤ k → slice_get (wire G) k ≡ Some y → P y

  -- one more delivery makes such entries, and doesn't bring the packet
  pub record Goes (G : List Full) (p : Full) : Type 0 where
    pub made : AllByRecursion P (items_of p)
    pub stays : J (p ∷ G)
    pub silent : BringsTo m b x p → ⊥

  abbrev pub Step : Type 0
  Step = (this : OneDelivery lab) → HasNoFault this.p → P this.y → J this.G → Goes this.G this.p

  -- the entries that the packet's record made
  pub at_first : q.first ≡ length (wire H) → AllByRecursion P (items_of q) → Each (q ∷ H)
  at_first number all k y low e = by (there_or_new P (wire H) (items_of q) k y e all) where
    by : (slice_get (wire H) k ≡ Some y) ⊎ P y → P y
    by (inl there) = let within = slice_get_within (wire H) k y there in absurd (omega (arith, within, number, low))
    by (inr new) = new

  pub more : (G : List Full) (p : Full) → AllByRecursion P (items_of p) → Each G → Each (p ∷ G)
  more G p all each k y low e = by (there_or_new P (wire G) (items_of p) k y e all) where
    by : (slice_get (wire G) k ≡ Some y) ⊎ P y → P y
    by (inl there) = each k y low there
    by (inr new) = new

  -- the same of an entry that the packet's record made, or one of the later ones
  abbrev pub StepOfNew : Type 0
  StepOfNew = (this : OneDelivery lab) → q.first ≤ this.serial → HasNoFault this.p → P this.y → J this.G → Goes this.G this.p

  -- the packet's record made such entries, and J is so after it
  record Begins : Type 0 where
    number : q.first ≡ length (wire H)
    all : AllByRecursion P (items_of q)
    first : J (q ∷ H)

  module _ (step : StepOfNew) (begins : Begins) where
    record Holds (later : List Full) : Type 0 where
      each : Each (later ++ q ∷ H)
      kept : J (later ++ q ∷ H)
      silent : SomeBrings m b x later → ⊥

    holds : (later : List Full) → Grown lab (later ++ q ∷ H) → AreFresh q later → Holds later
    holds [] g fresh = record { each = at_first begins.number begins.all; kept = begins.first; silent = λ come. come }
    holds (p ∷ later) g fresh = by (holds later g.1 fresh.1) (slice_get_cases (wire (later ++ q ∷ H)) fresh.0.number).1 where
      high : fresh.0.number < length (wire (later ++ q ∷ H))
      high = on_wire lab (later ++ q ∷ H) p fresh.0.number g fresh.0.delivered

      silent : Holds later → (BringsTo m b x p → ⊥) → BringsTo m b x p ⊎ SomeBrings m b x later → ⊥
      silent before none (inl it) = none it
      silent before none (inr come) = before.silent come

      by : Holds later → ((y : Item) × (fresh.0.number < length (wire (later ++ q ∷ H))) × (slice_get (wire (later ++ q ∷ H)) fresh.0.number ≡ Some y)
          × (get_or (wire (later ++ q ∷ H)) fresh.0.number y ≡ y))
          ⊎ ((length (wire (later ++ q ∷ H)) ≤ fresh.0.number) × (slice_get (wire (later ++ q ∷ H)) fresh.0.number ≡ None)) → Holds (p ∷ later)
      by before (inl there) =
          let goes = step (record {
            G = later ++ q ∷ H;
            p = p;
            serial = fresh.0.number;
            y = there.0;
            g = g;
            delivered = fresh.0.delivered;
            at = there.2;
          }) fresh.0.new fresh.0.sound (before.each fresh.0.number there.0 fresh.0.new there.2) before.kept in
          record { each = more (later ++ q ∷ H) p goes.made before.each; kept = goes.stays; silent = silent before goes.silent }
      by before (inr past) = let beyond : length (wire (later ++ q ∷ H)) ≤ fresh.0.number = past.0 in absurd (omega (arith, beyond, high))

  pub none_of_new_brings : StepOfNew → q.first ≡ length (wire H) → AllByRecursion P (items_of q) → J (q ∷ H) → NoneBrings lab H q m b x
  none_of_new_brings step number all first = λ later g fresh. (holds step (record { number = number; all = all; first = first }) later g fresh).silent

  pub none_brings : Step → q.first ≡ length (wire H) → AllByRecursion P (items_of q) → J (q ∷ H) → NoneBrings lab H q m b x
  none_brings step = none_of_new_brings (λ this new sound is holds. step this sound is holds)
