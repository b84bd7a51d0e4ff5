-- Each fate by which a datagram's packet is held, or its source listed, is one of a qualified client.
use Rattle.client_rules.proofs.Words.{Bool, Ep, Fate, Heard, Journal, List, ReceivedOnlyIf, Seen, Settings, Standing, TakesPlace, WantsOnlyQualified, Words, client_in, heard, holds, is_qualified, lists, qualification, reception, refl, seen, source_in, standing_at, standing_of, subst, sym, to_hold, to_list, true, value_in, ℕ, ◌∙◌, ◌≡◌}
use Rattle.teredo_node.specs.declared.fate.Fate.TheVariants as fate
use Rattle.client_rules.proofs.Fates.{fate_of_reception}
use Rattle.client_rules.proofs.Received.{reception_is_warranted}

-- of a held packet
held_is_qualified : (f : Fate) (a : Seen) (h : Heard) → holds f ≡ true → ReceivedOnlyIf f a h → a.qualified ≡ true
held_is_qualified fate.HeldTest a h e w = w.direct.mine.qualified
held_is_qualified fate.Held a h e w = w.direct.mine.qualified
held_is_qualified _ a h e w = cc

-- of a listed source
listed_is_qualified : (f : Fate) (a : Seen) (h : Heard) → lists f ≡ true → ReceivedOnlyIf f a h → a.qualified ≡ true
listed_is_qualified fate.Indirect a h e w = w.mine.qualified
listed_is_qualified fate.Rule3 a h e w = w.direct.mine.qualified
listed_is_qualified fate.Rule3Bubble a h e w = w.direct.mine.qualified
listed_is_qualified _ a h e w = cc

-- of either
place_is_qualified : (f : Fate) (listed : Bool) (a : Seen) (h : Heard) → TakesPlace f listed → ReceivedOnlyIf f a h → a.qualified ≡ true
place_is_qualified f listed a h (to_hold e) w = held_is_qualified f a h e w
place_is_qualified f listed a h (to_list e unlisted) w = listed_is_qualified f a h e w

-- what was seen of a datagram, at the fate that it has
warranted : (s : Settings) (a : Standing) (from : Ep) (x : List ℕ) (w : Words) → ReceivedOnlyIf (reception s a from x w).fate (seen s a from x) (heard s a.qualification from (value_in x))
warranted s a from x w = subst (λ (f : Fate). ReceivedOnlyIf f (seen s a from x) (heard s a.qualification from (value_in x))) (sym (fate_of_reception s a from x w)) (reception_is_warranted s a from x)

-- what is seen of the phase is what the journal says of it
phase_is_seen : (s : Settings) (j : Journal) (n : ℕ) (from : Ep) (x : List ℕ) → (seen s (standing_of s j n (source_in x)) from x).qualified ≡ is_qualified (qualification s j).phase
unfolding seen standing_at
phase_is_seen s j n from x = refl

pub wants_only_qualified : WantsOnlyQualified
unfolding client_in
wants_only_qualified s j n from x w listed takes =
    let a = standing_of s j n (source_in x) in
    let fate_is = (reception s a from x w).fate in
    sym (phase_is_seen s j n from x) ∙ place_is_qualified fate_is listed (seen s a from x) (heard s a.qualification from (value_in x)) takes (warranted s a from x w)
