-- What is left of a first packet's course: the steps of the packet itself in their order, and the straight bubble at any time
-- between them.
use Rattle.theory_first_packets.proofs.Words.{Bool, Fate, Full, List, [], append_snoc, false, false≢true, fates_of, subst, suc, sym, true, zero, ℕ, ◌++◌, ◌∷◌, ◌≡◌}
use Rattle.teredo_node.specs.declared.fate.Fate.TheVariants as fate
use Rattle.theory_first_packets.proofs.tables.Received.{hears_by, hands_by}

-- THE STEPS

-- the fate of the step that leaves so many less one: to the server, from there to the receiver, back to the sender, which may
-- trust the receiver, and the packet to the receiver, which may trust the sender
abbrev pub step_fate : (back forth : Bool) → ℕ → Fate
step_fate back forth zero = fate.Done
step_fate back forth (suc zero) = hands_by forth
step_fate back forth (suc (suc zero)) = hears_by back
step_fate back forth (suc (suc (suc zero))) = fate.Indirect
step_fate back forth (suc (suc (suc (suc k)))) = fate.ForwardOrigin

-- by the packet the receiver trusts the sender
abbrev pub trusts_then : Bool → ℕ → Bool
trusts_then forth zero = true
trusts_then forth (suc k) = forth

-- the fates of the steps that are left
abbrev pub steps_left : (back forth : Bool) → ℕ → List Fate
steps_left back forth zero = []
steps_left back forth (suc k) = step_fate back forth (suc k) ∷ steps_left back (trusts_then forth k) k

-- the receiver's NAT may still be closed to the sender: the receiver hasn't answered
abbrev pub may_be_shut : ℕ → Bool
may_be_shut (suc (suc (suc k))) = true
may_be_shut _ = false

-- WHAT MAY FOLLOW

-- whatever fates may follow, P holds of them. Where the straight bubble is on its way it comes next, and is shut out or let in, or
-- the next step does
abbrev pub Follow : (List Fate → Type 0) → (back straight forth : Bool) → ℕ → Type 0
Follow P back false forth k = P (steps_left back forth k)
Follow P back true forth zero = P (hears_by forth ∷ [])
Follow P back true forth (suc k) =
    (may_be_shut (suc k) ≡ true → P (fate.NatClosed ∷ steps_left back forth (suc k)))
    × (P (hears_by forth ∷ steps_left back true (suc k))
    × Follow (λ (fs : List Fate). P (step_fate back forth (suc k) ∷ fs)) back true (trusts_then forth k) k)

-- at first, by the cone bits of both: a sender without one sends a straight bubble, and a receiver with one gets the packet itself
abbrev pub AtFirst : (List Fate → Type 0) → (back forth near far : Bool) → Type 0
AtFirst P back forth near true = Follow P back false forth 1
AtFirst P back forth true false = Follow P back false forth 4
AtFirst P back forth false false = Follow P back true forth 4

-- what follows of P follows of Q
pub follow_on : (P Q : List Fate → Type 0) → ((fs : List Fate) → P fs → Q fs) → (back straight forth : Bool) (k : ℕ) → Follow P back straight forth k
    → Follow Q back straight forth k
follow_on P Q to back false forth k f = to (steps_left back forth k) f
follow_on P Q to back true forth zero f = to (hears_by forth ∷ []) f
follow_on P Q to back true forth (suc k) f = (
  λ may. to (fate.NatClosed ∷ steps_left back forth (suc k)) (f.0 may),
  (
    to (hears_by forth ∷ steps_left back true (suc k)) f.1.0,
    follow_on (λ (fs : List Fate). P (step_fate back forth (suc k) ∷ fs)) (λ (fs : List Fate). Q (step_fate back forth (suc k) ∷ fs))
        (λ fs g. to (step_fate back forth (suc k) ∷ fs) g) back true (trusts_then forth k) k f.1.1,
  ),
)

-- what holds of all holds of what follows
pub all_follow : (P : List Fate → Type 0) → ((fs : List Fate) → P fs) → (back straight forth : Bool) (k : ℕ) → Follow P back straight forth k
all_follow P all back false forth k = all (steps_left back forth k)
all_follow P all back true forth zero = all (hears_by forth ∷ [])
all_follow P all back true forth (suc k) = (
  λ may. all (fate.NatClosed ∷ steps_left back forth (suc k)),
  (
    all (hears_by forth ∷ steps_left back true (suc k)),
    all_follow (λ (fs : List Fate). P (step_fate back forth (suc k) ∷ fs)) (λ fs. all (step_fate back forth (suc k) ∷ fs)) back true (trusts_then forth k) k,
  ),
)

-- ONE DELIVERY

-- the next step, whether the straight bubble is on its way or not
pub step_comes : (P : List Fate → Type 0) (back straight forth : Bool) (k : ℕ) → Follow P back straight forth (suc k)
    → Follow (λ (fs : List Fate). P (step_fate back forth (suc k) ∷ fs)) back straight (trusts_then forth k) k
step_comes P back false forth k f = f
step_comes P back true forth k f = f.1.1

-- the straight bubble is shut out
pub bubble_shut : (P : List Fate → Type 0) (back forth : Bool) (k : ℕ) → may_be_shut k ≡ true → Follow P back true forth k
    → Follow (λ (fs : List Fate). P (fate.NatClosed ∷ fs)) back false forth k
bubble_shut P back forth zero may f = absurd (false≢true may)
bubble_shut P back forth (suc k) may f = f.0 may

-- or let in
pub bubble_comes : (P : List Fate → Type 0) (back forth : Bool) (k : ℕ) → Follow P back true forth k
    → Follow (λ (fs : List Fate). P (hears_by forth ∷ fs)) back false true k
bubble_comes P back forth zero f = f
bubble_comes P back forth (suc k) f = f.1.0

-- A RECORD MORE

-- what may follow the fates of these records
abbrev pub Ahead : (List Fate → Type 0) → (back : Bool) → List Full → (straight forth : Bool) → ℕ → Type 0
Ahead P back later straight forth k = Follow (λ (fs : List Fate). P (fates_of later ++ fs)) back straight forth k

module _ (P : List Fate → Type 0) (back : Bool) (q : Full) (later : List Full) where
  -- one fate more
  one_more : (f : Fate) → q.fate ≡ f → (fs : List Fate) → P (fates_of later ++ f ∷ fs) → P (fates_of (q ∷ later) ++ fs)
  one_more f same fs holds = subst P (sym (append_snoc (fates_of later) q.fate fs))
      (subst (λ (g : Fate). P (fates_of later ++ g ∷ fs)) (sym same) holds)

  abbrev After : List Fate → Type 0
  After fs = P (fates_of later ++ fs)

  -- that of the next step
  pub ahead_of_step : (straight forth : Bool) (k : ℕ) → q.fate ≡ step_fate back forth (suc k) → Ahead P back later straight forth (suc k)
      → Ahead P back (q ∷ later) straight (trusts_then forth k) k
  ahead_of_step straight forth k same ahead =
      let f : Fate = step_fate back forth (suc k) in
      follow_on (λ (fs : List Fate). After (f ∷ fs)) (λ (fs : List Fate). P (fates_of (q ∷ later) ++ fs)) (one_more f same) back straight
      (trusts_then forth k) k (step_comes After back straight forth k ahead)

  -- of the straight bubble, shut out or let in
  pub ahead_of_shut : (forth : Bool) (k : ℕ) → q.fate ≡ fate.NatClosed → may_be_shut k ≡ true → Ahead P back later true forth k
      → Ahead P back (q ∷ later) false forth k
  ahead_of_shut forth k same may ahead = one_more fate.NatClosed same (steps_left back forth k) (bubble_shut After back forth k may ahead)

  pub ahead_of_bubble : (forth : Bool) (k : ℕ) → q.fate ≡ hears_by forth → Ahead P back later true forth k → Ahead P back (q ∷ later) false true k
  ahead_of_bubble forth k same ahead = one_more (hears_by forth) same (steps_left back true k) (bubble_comes After back forth k ahead)
