use Rattle.td_outside.proofs.Words.{Came, List, Nothing, Some, [], arith, came_from, common_steps, drop, drop-drop, length, length-map, map, next_came, replicate, slice_get, slice_get_read, sym, take, ◌++◌, ◌+◌, ◌<◌, ◌∙◌, ◌∷◌, ◌≡◌}
use Rattle.td_outside.proofs.Arrivals.{next_arrival, taken_more, turned_on, turned_first}
use Rattle.td_outside.proofs.mem_link.MemLinkLink.recv.Goals as goal

pub returns-clause-came : goal.returns-clause-came
returns-clause-came c =
    let found : slice_get c.self.inside.arrivals.items c.self.inside.at ≡ Some c.in-Some.arrival.now = grind (arith, common_steps, slice_get_read) in
    rw (← c.self.view_is) (c.give.ensures.given ∙ next_arrival c.self.inside.arrivals.items c.self.inside.at c.in-Some.arrival.now found)

pub invariant_of-self-2 : goal.invariant_of-self-2
invariant_of-self-2 c =
    let found : slice_get c.self.inside.arrivals.items c.self.inside.at ≡ Some c.in-Some.arrival.now = grind (arith, common_steps, slice_get_read) in
    let inside : c.self.inside.at < length c.self.inside.arrivals.items = grind (arith, common_steps) in
    (omega (arith, inside), λ more. c.self.invariant.1 inside, grind (arith, common_steps), c.self.invariant.3, c.self.invariant.4, turned_on c.self.inside.on (map came_from c.self.inside.arrivals.items) c.self.inside.at c.self.invariant.5)

pub returns-clause-side : goal.returns-clause-side
returns-clause-side c =
    let found : slice_get c.self.inside.arrivals.items c.self.inside.at ≡ Some c.in-Some.arrival.now = grind (arith, common_steps, slice_get_read) in
    rw (← c.self.view_is) (turned_first c.self.inside.on (drop c.self.inside.at (map came_from c.self.inside.arrivals.items)) c.give.new.buf
    c.give.result (c.give.ensures.given ∙ next_arrival c.self.inside.arrivals.items c.self.inside.at c.in-Some.arrival.now found) c.self.invariant.5)

pub returns-clause-state : goal.returns-clause-state
returns-clause-state c =
    let all : List Came = map came_from c.self.inside.arrivals.items in
    let inside : c.self.inside.at < length c.self.inside.arrivals.items = grind (arith, common_steps) in
    let within : c.self.inside.at < length all = rw (length-map c.self.inside.arrivals.items) inside in
    let taken : take (c.self.inside.at + 1) all ++ replicate c.self.inside.idle Nothing
    ≡ (take c.self.inside.at all ++ replicate c.self.inside.idle Nothing) ++ next_came (drop c.self.inside.at all)
    ∷ [] = taken_more all c.self.inside.at c.self.inside.idle within (c.self.invariant.1 inside) in
    let coming : drop (c.self.inside.at + 1) all ≡ drop 1 (drop c.self.inside.at all) = sym (drop-drop 1 c.self.inside.at all) in
    rw (← c.self.view_is) (grind (arith, common_steps, taken, coming))
