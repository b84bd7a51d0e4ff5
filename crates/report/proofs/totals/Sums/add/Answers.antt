use Rattle.report.proofs.Words.{Record, added, ap, rules, ◌∙◌}
use Rattle.report.proofs.Added.{sums_after}
use Rattle.report.proofs.totals.Sums.add.Goals as goal

pub returns-clause-added : goal.returns-clause-added
returns-clause-added c = search rules

pub returns-clause-sums : goal.returns-clause-sums
returns-clause-sums c = λ H next e f told. sums_after _ _ H next (returns-clause-added c ∙ ap (λ (r : Record). added c.args.self.now r) f) e told
