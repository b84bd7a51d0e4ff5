-- What becomes of a node's sends.
use Rattle.legal.proofs.Words.{AreOfSends, AreOwn, Bool, EachMakesItsOwn, Entry, Ep, Err, Full, IsOfSend, Lab, List, Loss, Node, Ok, Option, Passing, Result, Send, Side, [], armed, by_way, client, crossing_unless, false, is_at_place, made_outright, marked, nat, native, or_loss, outright, own_ep, refl, relay, sendings, server, subst, sym, true, way_out, ℕ, ◌+◌, ◌∷◌}

marked_is : (x : Send) (r : Result Ep Loss) → IsOfSend (marked x r) x
marked_is x (Ok src) = (refl, refl)
marked_is x (Err why) = (refl, refl)

of_way : (lab : Lab) (H : List Full) (m : ℕ) (way : List ℕ) (inside : Ep) (fails : Option ℕ) (i : ℕ) (passed : List Passing) (xs : List Send) → AreOfSends (by_way lab H m way inside fails i passed xs).made xs
of_way lab H m way inside fails i passed [] = tt
of_way lab H m way inside fails i passed (x ∷ xs) =
    let c = crossing_unless (is_at_place i fails) lab H m x.to way inside passed in
    (marked_is x (or_loss (is_at_place i fails) c.leaves), of_way lab H m way inside fails (i + 1) c.passed xs)

outright_is : (own : Side → Ep) (b : Bool) (x : Send) → IsOfSend (made_outright b own x) x
outright_is own true x = (refl, refl)
outright_is own false x = (refl, refl)

of_outright : (own : Side → Ep) (fails : Option ℕ) (i : ℕ) (xs : List Send) → AreOfSends (outright own fails i xs) xs
of_outright own fails i [] = tt
of_outright own fails i (x ∷ xs) = (outright_is own (is_at_place i fails) x, of_outright own fails (i + 1) xs)

of_node : (lab : Lab) (H : List Full) (m : ℕ) (e : Entry) (a : Node) → AreOwn a e (sendings lab H m e a).made
of_node lab H m e (server a) = record { front = outright (own_ep (server a)) (armed H) 0 e.step.sends; split = refl; each = of_outright (own_ep (server a)) (armed H) 0 e.step.sends }
of_node lab H m e (nat a) = refl
of_node lab H m e (client c) = of_way lab H m (way_out lab.chain c.nat) c.inside (armed H) 0 [] e.step.sends
of_node lab H m e (relay a) = record { front = outright (own_ep (relay a)) (armed H) 0 e.step.sends; split = refl; each = of_outright (own_ep (relay a)) (armed H) 0 e.step.sends }
of_node lab H m e (native h) = refl

pub each_makes_its_own : EachMakesItsOwn
each_makes_its_own lab H r n a e g = subst (AreOwn a e) (sym g.made) (of_node lab H r.moment e a)
