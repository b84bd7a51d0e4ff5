use Rattle.commands.proofs.Words.{AsksToAudit, List, [], codes, rules, subst, sym, ℕ, ◌∷◌, ◌≡◌}
use Rattle.commands.proofs.command.with_three.Goals as goal

pub returns-then-eq-clause-found : goal.returns-then-eq-clause-found
returns-then-eq-clause-found c =
    let is : c.args.command.now ≡ codes "audit" = search rules in
    let found = c.in_ok-asked.ensures.found (codes "audit") c.args.third.now in
    subst (λ (word : List ℕ). AsksToAudit (codes "audit") (word ∷ c.args.first.now ∷ c.args.second.now ∷ c.args.third.now ∷ []) c.in_ok-asked.asked c.args.third.now) (sym is) found

pub returns-then-eq-2-clause-found : goal.returns-then-eq-2-clause-found
returns-then-eq-2-clause-found c =
    let is : c.args.command.now ≡ codes "explain" = search rules in
    let found = c.in_ok-asked-2.ensures.found (codes "explain") c.args.third.now in
    subst (λ (word : List ℕ). AsksToAudit (codes "explain") (word ∷ c.args.first.now ∷ c.args.second.now ∷ c.args.third.now ∷ []) c.in_ok-asked-2.asked c.args.third.now) (sym is) found
