use Rattle.peer_list.proofs.Words.{AreEarly, List, Millis, ap, map, refl, subst, sym, take, ℕ, ◌∙◌, ◌∷◌}
use Rattle.peer_list.proofs.PushLemmas.{pushed, early_pushed, at_most}
use Rattle.peer_list.proofs.tries.Tries.push.Goals as goal

pub invariant_of-self : goal.invariant_of-self
invariant_of-self c =
    let inside = c.self.invariant in
    rw c.min-self-inside.ensures (
      at_most c.self.inside.count,
      refl,
      subst AreEarly (sym (pushed c.self.inside.moments c.self.inside.count c.args.now inside.1 inside.0))
          (early_pushed (map (λ (m : Millis). m.0) (take c.self.inside.count c.self.inside.moments)) c.args.now.0 c.requires inside.2),
    )

pub returns : goal.returns
returns c =
    let inside = c.self.invariant in
    rw c.min-self-inside.ensures (pushed c.self.inside.moments c.self.inside.count c.args.now inside.1 inside.0 ∙ ap (λ (ms : List ℕ). c.args.now.0 ∷ take 3 ms) c.self.view_is)
