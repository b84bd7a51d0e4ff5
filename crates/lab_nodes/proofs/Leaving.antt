-- What leaves a node by its outlet is what becomes of its sends.
use Rattle.lab_nodes.proofs.Words.{Entry, Ep, Full, Lab, List, Made, Node, Option, Own, Primary, Secondary, Side, SixPacket, Step, ap, armed, direct, outright, own_ep, refl, sendings_by, six_made, six_sent, source_at, sym, ℕ, ◌++◌, ◌∙◌, ◌≡◌}

own_at : (a : Node) (side : Side) → source_at (own_ep a Primary) (own_ep a Secondary) side ≡ own_ep a side
own_at a Primary = refl
own_at a Secondary = refl

-- the step is that of an entry, and the packet besides it is its packet
pub record IsOfEntry (e : Entry) (step : Step) (packet : Option SixPacket) : Type 0 where
  pub did : step ≡ e.step
  pub six : six_sent packet ≡ six_made e.input step.six

-- what a server or relay sends
pub left_own : (lab : Lab) (H : List Full) (m : ℕ) (a : Node) (e : Entry) (step : Step) (packet : Option SixPacket) → IsOfEntry e step packet
    → direct (outright (own_ep a) (armed H) 0 e.step.sends ++ six_made e.input e.step.six) ≡ sendings_by lab H m (Own (own_ep a Primary) (own_ep a Secondary)) packet step.sends
left_own lab H m a e step packet of =
    let own : source_at (own_ep a Primary) (own_ep a Secondary) ≡ own_ep a = λ i side. own_at a side i in
    ap (λ (s : Step). direct (outright (own_ep a) (armed H) 0 s.sends ++ six_made e.input s.six)) (sym of.did)
    ∙ ap (λ (ms : List Made). direct (outright (own_ep a) (armed H) 0 step.sends ++ ms)) (sym of.six)
    ∙ ap (λ (f : Side → Ep). direct (outright f (armed H) 0 step.sends ++ six_sent packet)) (sym own)
