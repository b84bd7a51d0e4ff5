use Rattle.peer_list.proofs.Words.{AreInTurn, IsPlaceFor, List, ap, cond, insert, is_ok, length, subst, sym, ℕ, ◌∙◌, ◌≡◌, ◌≤◌}
use Rattle.peer_list.proofs.OrderLemmas.{turn_put}
use Rattle.peer_list.proofs.order.put.Goals as goal

pub returns-clause-turn : goal.returns-clause-turn
returns-clause-turn c =
    let place = c.place_behind-place.result in
    let within : place ≤ length c.args.order.now.items = subst (λ (ks : List ℕ). place ≤ length ks) c.deref.ensures.value c.place_behind-place.ensures.within in
    let is : c.insert.new.self.items ≡ insert c.args.order.now.items place c.args.key = c.insert.ensures.items ∙ ap (λ r. cond (is_ok r) (insert c.args.order.now.items place c.args.key) c.args.order.now.items) c.unwrap.ensures in
    let point : IsPlaceFor c.args.slab.now c.args.order.now.items c.in-Some.due place =
    subst (λ (ks : List ℕ). IsPlaceFor c.args.slab.now ks c.in-Some.due place) c.deref.ensures.value c.place_behind-place.ensures.place in
    subst (AreInTurn c.args.slab.now) (sym is)
    (turn_put c.args.slab.now c.args.order.now.items place c.args.key c.in-Some.due c.in-Some.ensures within point c.requires.turn)
