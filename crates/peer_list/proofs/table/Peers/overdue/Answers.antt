use Rattle.peer_list.proofs.Words.{le_refl, sym, ◌∙◌}
use Rattle.peer_list.proofs.OverdueLemmas.{nothing_overdue}
use Rattle.peer_list.proofs.DueNowLemmas.{nobody_due, named, is_overdue, none_overdue, before, not_before}
use Rattle.peer_list.proofs.table.Peers.overdue.Goals as goal

pub returns-in_err-at-clause-none : goal.returns-in_err-at-clause-none
returns-in_err-at-clause-none c = rw c.from_residual.ensures (nothing_overdue c.args.self.now c.args.now.0 c.args.now.0 (le_refl c.args.now.0) (nobody_due c.args.self.now c.args.now.0 c.in_err-at.ensures.first))

pub returns-then-lt-clause-none : goal.returns-then-lt-clause-none
returns-then-lt-clause-none c = none_overdue c.args.self.now c.args.now.0 c.in_ok-at.at c.in_ok-at.who (named _ _ _ _ c.in_ok-at.ensures.first) (before c.args.now.0 c.in_ok-at.at.0 (sym c.lt.ensures ∙ c.if-lt.true))

pub returns-clause-overdue : goal.returns-clause-overdue
returns-clause-overdue c = is_overdue c.args.self.now c.args.now.0 c.in_ok-at.at c.in_ok-at.who (named _ _ _ _ c.in_ok-at.ensures.first) (not_before c.args.now.0 c.in_ok-at.at.0 (sym c.lt.ensures ∙ c.if-lt.false))
