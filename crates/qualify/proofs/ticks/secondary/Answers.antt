use Rattle.qualify.proofs.Words.{Step, after_words, ap, nonces_of, sym, words_of, ◌∙◌}
use Rattle.qualify.proofs.Rounds.{AsksOnce, secondary_asks, secondary_is_over, over_by}
use Rattle.qualify.proofs.ticks.secondary.Goals as goal

pub returns-else-asks_again-clause-tick : goal.returns-else-asks_again-clause-tick
returns-else-asks_again-clause-tick c =
    over_by c.args.settings.now c.args.now.0 (words_of c.args.rng.now) _ _ c.off_line.new.step c.off_line.result c.off_line.ensures.state
    (secondary_is_over c.args.settings.now c.args.now.0 (words_of c.args.rng.now) c.args.round c.args.kept c.off_line.new.step (sym c.asks_again.ensures ∙ c.if-asks_again.false) c.off_line.ensures.step)

pub returns-else-asks_again-clause-place : goal.returns-else-asks_again-clause-place
unfolding after_words
returns-else-asks_again-clause-place c = ap (λ (x : Step). after_words x.drawn c.args.rng.now) (sym c.off_line.ensures.step)

pub returns-then-asks_again-clause-tick : goal.returns-then-asks_again-clause-tick
returns-then-asks_again-clause-tick c =
    let once : AsksOnce c.args.now.0 (words_of c.args.rng.now) (nonces_of c.args.round.nonces) c.asked.result = record {
      drawn = c.solicit-nonce.result;
      is = c.solicit-nonce.ensures.nonce;
      due = c.asked.ensures.due;
      nonces = c.asked.ensures.nonces;
    } in
    secondary_asks c.args.settings.now c.args.round c.args.kept c.solicit-nonce.new.step (sym c.asks_again.ensures ∙ c.if-asks_again.true) c.solicit-nonce.ensures.step once
