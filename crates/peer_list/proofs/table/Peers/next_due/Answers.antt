use Rattle.peer_list.proofs.DueNowLemmas.{first_due_of}
use Rattle.peer_list.proofs.table.Peers.next_due.Goals as goal

pub returns-in_err-at-clause-first : goal.returns-in_err-at-clause-first
returns-in_err-at-clause-first c = rw c.from_residual.ensures (first_due_of c.args.self.now c.args.now.0 _ c.in_err-at.ensures.first c.in_err-at.ensures.lasts)

pub returns-clause-first : goal.returns-clause-first
returns-clause-first c = first_due_of c.args.self.now c.args.now.0 _ c.in_ok-at.ensures.first c.in_ok-at.ensures.lasts
