use Rattle.state_lines.proofs.Words.{List, ap, before, sym, ℕ, ◌++◌, ◌∙◌}
use Rattle.state_lines.proofs.TryByTry.{moments_are}
use Rattle.state_lines.proofs.peer_lines.put_all_tries.Goals as goal

pub returns-clause-text : goal.returns-clause-text
returns-clause-text c =
    let joined = before c.args.out.now _ _ c.put_tries-any.ensures.text c.put_dash.ensures.text in
    let told = rw (c.put_tries-any.ensures.any, sym c.tries.ensures.value) at joined in
    told ∙ ap (λ (x : List ℕ). c.args.out.now ++ x) (sym (moments_are c.args.now.0 c.args.peer.now.tries))
