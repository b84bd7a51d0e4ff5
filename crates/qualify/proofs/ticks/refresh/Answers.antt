use Rattle.qualify.proofs.Words.{Bool, ChaCha, Qualified, Some, Step, after_words, ap, interval_of, solicits, sym, words_of, ℕ, ◌+◌, ◌∙◌}
use Rattle.teredo_node.specs.declared.fate.Fate.TheVariants as fate
use Rattle.qualify.proofs.Rounds.{refreshes_so}
use Rattle.qualify.proofs.ticks.refresh.Goals as goal

pub returns-clause-tick : goal.returns-clause-tick
unfolding words_of after_words
returns-clause-tick c =
    let long = c.draw_interval-interval.ensures.value ∙ ap (λ (g : ChaCha). interval_of c.args.settings.now (words_of g 0)) c.solicit-nonce.ensures.place in
    let step = c.set_drawn.ensures ∙ ap (λ (x : Step). record x { drawn = 3 }) c.solicit-nonce.ensures.step in
    refreshes_so c.args.settings.now c.args.now.0 (words_of c.args.rng.now) c.args.upkeep c.refreshed.result c.set_drawn.new.self
    (step ∙ ap (λ (cone : Bool). solicits c.args.settings.now fate.Refresh Qualified cone 3 (words_of c.args.rng.now)) c.has_cone.ensures)
    (c.refreshed.ensures.2 ∙ ap (λ (n : ℕ). c.args.now.0 + n) long) (c.refreshed.ensures.3 ∙ ap Some c.solicit-nonce.ensures.nonce) (c.refreshed.ensures.1 ∙ long) c.refreshed.ensures.0

pub returns-clause-place : goal.returns-clause-place
unfolding after_words
returns-clause-place c =
    c.draw_interval-interval.ensures.place ∙ ap (after_words 1) c.solicit-nonce.ensures.place
    ∙ ap (λ (x : Step). after_words x.drawn c.args.rng.now) (sym c.set_drawn.ensures)
