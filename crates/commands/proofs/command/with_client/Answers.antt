use Rattle.commands.proofs.Words.{AsksToQualify, List, [], codes, rules, subst, sym, ℕ, ◌∷◌, ◌≡◌}
use Rattle.commands.proofs.command.with_client.Goals as goal

pub returns-then-eq-clause-found : goal.returns-then-eq-clause-found
returns-then-eq-clause-found c =
    let is : c.args.command.now ≡ codes "qualify" = search rules in
    let found = c.in_ok-asked.ensures.found in
    subst (λ (word : List ℕ). AsksToQualify (word ∷ c.args.inside.now ∷ c.args.primary.now ∷ c.args.secondary.now ∷ c.args.seed.now ∷ c.args.turns.now ∷ []) c.in_ok-asked.asked) (sym is) found
