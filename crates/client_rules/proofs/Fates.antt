-- The fate of what is done, and which bearings are a try's.
use Rattle.client_rules.proofs.Words.{Bool, Entry, Ep, Fate, FateOfReception, FateOfTransmission, Ip6, List, Settings, Standing, TriesTouch, Value, Words, bearing_of, false, fields_in, is_barred, known_in, queues, reception, reception_fate, reception_step, refl, transmission, transmission_row, transmission_step, true, value_in, ℕ, ◌≡◌}
use Rattle.teredo_node.specs.declared.fate.Fate.TheVariants as fate
use Rattle.client_rules.specs.Transmission.{given}

received : (s : Settings) (a : Standing) (from : Ep) (x : List ℕ) (v : Value) (w : Words) (f : Fate) → (reception_step s a from x v w f).fate ≡ f
received s a from x v w fate.Malformed = refl
received s a from x v w _ = refl

pub fate_of_reception : FateOfReception
unfolding reception
fate_of_reception s a from x w = received s a from x (value_in x) w (reception_fate s a from x)

queued : (b : Bool) (s : Settings) (a : Standing) (p : Ip6) (w : Words) → (queues b s a p w).fate ≡ fate.Queued
queued true s a p w = refl
queued false s a p w = refl

given_out : (s : Settings) (a : Standing) (x : List ℕ) (p : Ip6) (w : Words) (f : Fate) → (transmission_step s a x p w f).fate ≡ f
given_out s a x p w fate.Queued = queued (is_barred a.moment (known_in a)) s a p w
given_out s a x p w _ = refl

pub fate_of_transmission : FateOfTransmission
unfolding transmission
fate_of_transmission s a x w = given_out s a x (fields_in x).dst w (transmission_row (given s a x))

touching : (f : Fate) (e : Entry) → (bearing_of f e).tries ≡ true → (bearing_of f e).touches ≡ true
touching fate.Indirect e h = refl
touching fate.Rule1 e h = refl
touching fate.Rule1Bubble e h = refl
touching fate.Rule2 e h = refl
touching fate.Rule3 e h = refl
touching fate.Rule3Bubble e h = refl
touching fate.HeldTest e h = refl
touching fate.SuspiciousTest e h = refl
touching fate.Sent e h = refl
touching fate.Queued e h = refl
touching fate.Bubbles e h = refl
touching fate.Test e h = refl
touching _ e h = h

pub tries_touch : TriesTouch
tries_touch e h = touching e.step.fate e h
