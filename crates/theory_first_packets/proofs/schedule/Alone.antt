-- After a record that makes nothing no fresh schedule has a delivery.
use Rattle.theory_first_packets.proofs.Words.{AreFresh, Full, Grown, Item, Lab, List, Some, [], ap, deliveries, filter_map, frame, item_in, items_of, length, of_its_event, refl, subst, wire, ℕ, ◌++◌, ◌<◌, ◌∙◌, ◌∷◌, ◌≡◌}
use Rattle.std.proofs.lemmas.List.{append-nil}
use Rattle.legal.proofs.Delivered as delivered
use Rattle.theory_first_packets.proofs.passing.Arrivals.{beyond}

module _ (lab : Lab) where
  -- what is delivered is on the wire
  pub on_wire : (H : List Full) (q : Full) (k : ℕ) → Grown lab (q ∷ H) → q.delivered ≡ Some k → k < length (wire H)
  on_wire H q k g at = delivered.on_wire lab H q k (deliveries lab H q k g at)

  -- the entries of a record come behind those before it
  pub first_is : (H : List Full) (r : Full) → Grown lab (r ∷ H) → r.first ≡ length (wire H)
  first_is H r g = ap (λ (z : Full). z.first) g.0.is ∙ (of_its_event lab H r.event r.asked).first

  -- the wire is as long as before
  pub as_long : (H : List Full) (r : Full) → r.made ≡ [] → length (wire (r ∷ H)) ≡ length (wire H)
  as_long H r nothing =
      let items : items_of r ≡ [] = ap (filter_map item_in) nothing in
      ap (λ (xs : List Item). length xs) ((frame lab H r).grows ∙ ap (λ (xs : List Item). wire H ++ xs) items ∙ append-nil (wire H))

  -- so nothing is left for a fresh schedule
  pub alone : (H : List Full) (r : Full) → Grown lab (r ∷ H) → r.made ≡ [] → (later : List Full) → Grown lab (later ++ r ∷ H) → AreFresh r later → later ≡ []
  alone H r grown nothing [] g fresh = refl
  alone H r grown nothing (q ∷ later) g fresh =
      let same : later ≡ [] = alone H r grown nothing later g.1 fresh.1 in
      let came = on_wire (later ++ r ∷ H) q fresh.0.number g fresh.0.delivered in
      let within : fresh.0.number < length (wire (r ∷ H)) = subst (λ (z : List Full). fresh.0.number < length (wire (z ++ r ∷ H))) same came in
      absurd (beyond fresh.0.number r.first (length (wire H)) (length (wire (r ∷ H))) fresh.0.new (first_is H r grown) (as_long H r nothing) within)
