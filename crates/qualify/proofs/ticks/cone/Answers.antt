use Rattle.qualify.proofs.Words.{List, [], ap, nonces_of, sym, words_of, ℕ, ◌∙◌, ◌∷◌}
use Rattle.qualify.proofs.Rounds.{AsksOnce, cone_asks, cone_is_over}
use Rattle.qualify.proofs.ticks.cone.Goals as goal

pub returns-then-asks_again-clause-tick : goal.returns-then-asks_again-clause-tick
returns-then-asks_again-clause-tick c =
    let once : AsksOnce c.args.now.0 (words_of c.args.rng.now) (nonces_of c.args.round.nonces) c.asked.result = record {
      drawn = c.solicit-nonce.result;
      is = c.solicit-nonce.ensures.nonce;
      due = c.asked.ensures.due;
      nonces = c.asked.ensures.nonces;
    } in
    cone_asks c.args.settings.now c.args.round c.solicit-nonce.new.step (sym c.asks_again.ensures ∙ c.if-asks_again.true) c.solicit-nonce.ensures.step once

pub returns-else-asks_again-clause-tick : goal.returns-else-asks_again-clause-tick
returns-else-asks_again-clause-tick c =
    let once : AsksOnce c.args.now.0 (words_of c.args.rng.now) [] c.asked-else-asks_again.result = record {
      drawn = c.solicit-nonce-else-asks_again.result;
      is = c.solicit-nonce-else-asks_again.ensures.nonce;
      due = c.asked-else-asks_again.ensures.due;
      nonces = c.asked-else-asks_again.ensures.nonces ∙ ap (λ (ns : List ℕ). c.solicit-nonce-else-asks_again.result ∷ ns) c.begun.ensures.nonces;
    } in
    cone_is_over c.args.settings.now c.args.round c.solicit-nonce-else-asks_again.new.step (sym c.asks_again.ensures ∙ c.if-asks_again.false) c.solicit-nonce-else-asks_again.ensures.step once
