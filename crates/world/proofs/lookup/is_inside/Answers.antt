use Rattle.world.proofs.Words.{ap, comes_to, same_ep-true, sym, ℕ, ◌∙◌}
use Rattle.world.proofs.lookup.is_inside.Goals as goal

pub returns : goal.returns
returns c = λ yes.
    let client = c.args.client in
    ap (λ (k : ℕ). comes_to k c.args.inside) c.if-nat-client.false
    ∙ ap (comes_to client.nat) (same_ep-true c.args.inside client.inside (sym c.eq.ensures ∙ yes))
