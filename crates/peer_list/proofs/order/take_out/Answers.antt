use Rattle.peer_list.proofs.Words.{List, ap, get_or, length, subst, ℕ, ◌<◌, ◌∙◌, ◌≡◌}
use Rattle.peer_list.proofs.OrderLemmas.{one_if, none_out, taken_out}
use Rattle.peer_list.proofs.order.take_out.Goals as goal

pub returns-then-not-was_due-clause-items : goal.returns-then-not-was_due-clause-items
returns-then-not-was_due-clause-items c = none_out c.args.key c.args.order.now.items (c.requires.once ∙ ap one_if c.if-not-was_due.true)

pub returns-clause-items : goal.returns-clause-items
returns-clause-items c =
    let place = c.place_of.result in
    let there : place < length c.args.order.now.items = subst (λ (ks : List ℕ). place < length ks) c.deref.ensures.value c.place_of.ensures.there in
    let at : get_or c.args.order.now.items place 0 ≡ c.args.key = subst (λ (ks : List ℕ). get_or ks place 0 ≡ c.args.key) c.deref.ensures.value c.place_of.ensures.key in
    c.remove.ensures.items ∙ taken_out c.args.key c.args.order.now.items place (c.requires.once ∙ ap one_if c.if-not-was_due.false) there at
