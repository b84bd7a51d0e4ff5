use Rattle.client_core.proofs.Words.{Step, after_words, ap, sym}
use Rattle.client_core.proofs.client.Client.try_unless.Goals as goal

pub returns-then-barred-clause-place : goal.returns-then-barred-clause-place
unfolding after_words
returns-then-barred-clause-place c = ap (λ (s : Step). after_words s.drawn c.args.self.now.rng) (sym c.reset.ensures)
