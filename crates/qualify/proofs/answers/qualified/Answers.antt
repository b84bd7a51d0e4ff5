use Rattle.qualify.proofs.Words.{Option, Some, address_told, ap, ℕ, ◌∙◌}
use Rattle.qualify.proofs.FlagWords.{flags_behind, place_behind}
use Rattle.qualify.proofs.answers.qualified.Goals as goal

pub returns-clause-address : goal.returns-clause-address
returns-clause-address c =
    let s = c.args.settings.now in
    ap Some c.of.ensures.0 ∙ c.address.ensures
    ∙ ap (λ (word : Option ℕ). address_told s c.args.cone word (Some c.args.origin)) (c.draw_flags-word.ensures.value ∙ flags_behind s c.args.rng.now c.draw_interval-interval.new.rng c.draw_interval-interval.ensures.place)

pub returns-clause-place : goal.returns-clause-place
returns-clause-place c = c.draw_flags-word.ensures.place ∙ place_behind c.args.settings.now c.args.rng.now c.draw_interval-interval.new.rng c.draw_interval-interval.ensures.place
