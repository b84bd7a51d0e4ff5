-- What comes onto the wire weighs no more than what the node sent.
use Rattle.theory_storms.proofs.Words.{AllByRecursion, AreOfSends, Bool, Ep, IsMadeItem, Item, List, Made, Option, Send, Side, [], ap, arith, false, filter_map, is_at_place, item_in, lost, made_outright, outright, sent, six, subst, sum_by, sum_by-cons, true, udp, ℕ, ◌++◌, ◌+◌, ◌∙◌, ◌∷◌, ◌≡◌, ◌≤◌}

-- those that came onto the wire
abbrev pub items_in : List Made → List Item
items_in made = filter_map item_in made

-- the datagram of a send weighs no more than this, wherever it leaves from
abbrev pub MayWeigh : (Item → ℕ) → (Send → ℕ) → Send → Type 0
MayWeigh w k s = (src : Ep) → IsMadeItem (udp src s.to s.bytes) → w (udp src s.to s.bytes) ≤ k s

-- one by one
pub sends_weigh : (w : Item → ℕ) (k : Send → ℕ) (made : List Made) (sends : List Send) → AreOfSends made sends → AllByRecursion IsMadeItem (items_in made)
    → AllByRecursion (MayWeigh w k) sends → sum_by w (items_in made) ≤ sum_by k sends
sends_weigh w k [] [] are made each = omega arith
sends_weigh w k [] (s ∷ ss) are made each = absurd are
sends_weigh w k (m ∷ ms) [] are made each = absurd are
sends_weigh w k (sent (udp src dst bytes) ∷ ms) (s ∷ ss) are made each =
    let same : udp src dst bytes ≡ udp src s.to s.bytes = ap (λ (e : Ep). udp src e bytes) are.0.0 ∙ ap (λ (x : List ℕ). udp src s.to x) are.0.1 in
    let one = each.0 src (subst IsMadeItem same made.0) in
    let is = ap w same in
    let rest = sends_weigh w k ms ss are.1 made.1 each.1 in
    let new = sum_by-cons w (udp src dst bytes) (items_in ms) in
    let old = sum_by-cons k s ss in
    omega (arith, one, is, rest, new, old)
sends_weigh w k (sent (six to bytes) ∷ ms) (s ∷ ss) are made each = absurd are.0
sends_weigh w k (lost why dst bytes ∷ ms) (s ∷ ss) are made each =
    let rest = sends_weigh w k ms ss are.1 made each.1 in
    let old = sum_by-cons k s ss in
    omega (arith, rest, old)

-- the same from an endpoint of its own
abbrev pub WeighsFrom : (Item → ℕ) → (Send → ℕ) → (Side → Ep) → Send → Type 0
WeighsFrom w k own s = IsMadeItem (udp (own s.side) s.to s.bytes) → w (udp (own s.side) s.to s.bytes) ≤ k s

-- how much items weigh and sends, and whence a node sends
pub record Scale : Type 0 where
  pub items : Item → ℕ
  pub sends : Send → ℕ
  pub own : Side → Ep

pub own_weigh : (z : Scale) (fails : Option ℕ) (i : ℕ) (sends : List Send) (more : List Made)
    → AllByRecursion IsMadeItem (items_in (outright z.own fails i sends ++ more)) → AllByRecursion (WeighsFrom z.items z.sends z.own) sends
    → sum_by z.items (items_in (outright z.own fails i sends ++ more)) ≤ sum_by z.sends sends + sum_by z.items (items_in more)
own_weigh z fails i [] more made each = omega arith
own_weigh z fails i (s ∷ ss) more made each = by (is_at_place i fails) made (own_weigh z fails (i + 1) ss more) (sum_by-cons z.sends s ss) where
  by : (b : Bool) → AllByRecursion IsMadeItem (items_in (made_outright b z.own s ∷ (outright z.own fails (i + 1) ss ++ more)))
      → (AllByRecursion IsMadeItem (items_in (outright z.own fails (i + 1) ss ++ more)) → AllByRecursion (WeighsFrom z.items z.sends z.own) ss
      → sum_by z.items (items_in (outright z.own fails (i + 1) ss ++ more)) ≤ sum_by z.sends ss + sum_by z.items (items_in more))
      → sum_by z.sends (s ∷ ss) ≡ z.sends s + sum_by z.sends ss
      → sum_by z.items (items_in (made_outright b z.own s ∷ (outright z.own fails (i + 1) ss ++ more))) ≤ sum_by z.sends (s ∷ ss) + sum_by z.items
      (items_in more)
  by true all ih old = let rest = ih all each.1 in omega (arith, rest, old)
  by false all ih old =
      let rest = ih all.1 each.1 in
      let one = each.0 all.0 in
      let new = sum_by-cons z.items (udp (z.own s.side) s.to s.bytes) (items_in (outright z.own fails (i + 1) ss ++ more)) in
      omega (arith, rest, one, old, new)
