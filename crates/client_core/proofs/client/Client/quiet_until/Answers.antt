use Rattle.client_core.proofs.Words.{IsNoSooner, IsSooner, Option, ap, option_map, peer_may, phase_may, sooner, subst, ℕ, ◌∙◌}
use Rattle.client_core.proofs.Owed.{none_sooner, none_of_two_sooner, one_of_two_sooner}
use Rattle.client_core.proofs.client.Client.quiet_until.Goals as goal

pub returns-clause-none : goal.returns-clause-none
returns-clause-none c m late =
    let phase : Option ℕ = c.args.self.now.qualifier.now.due in
    let peers : Option ℕ = option_map (λ at. at.0) c.quiet_until.result in
    let told = c.sooner.ensures ∙ ap (λ (due : Option ℕ). sooner due peers) c.due.ensures.value in
    let both = none_of_two_sooner m phase peers (subst (IsNoSooner m) told late) in
    none_sooner c.args.self.now m both.0 (c.quiet_until.ensures.none m both.1)

pub returns-clause-some : goal.returns-clause-some
returns-clause-some c m early =
    let phase : Option ℕ = c.args.self.now.qualifier.now.due in
    let peers : Option ℕ = option_map (λ at. at.0) c.quiet_until.result in
    let told = c.sooner.ensures ∙ ap (λ (due : Option ℕ). sooner due peers) c.due.ensures.value in
    one_of_two_sooner m phase peers (λ h. phase_may h) (λ h. peer_may (c.quiet_until.ensures.some m h)) (subst (IsSooner m) told early)
