use Rattle.relay_core.proofs.Words.{None, RelayEnters, Some, Step, ap, refl, subst, sym, ticked, wordless_entry}
use Rattle.relay_core.proofs.Ticked.{tried_again}
use Rattle.relay_core.proofs.Owed.{tried_off}
use Rattle.relay_core.proofs.relay.Relay.try_again.Goals as goal

pub returns-clause-entered : goal.returns-clause-entered
returns-clause-entered c =
    let old = c.args.self.now in
    let n = c.args.now.0 in
    subst (λ (s : Step). RelayEnters old (wordless_entry n ticked None (Some c.args.who) s) (record old { peers = c.tried.new.self })) (sym c.send_bubble.ensures)
    (tried_again old (record old { peers = c.tried.new.self }) n c.args.who c.requires.overdue
    (record { clock = c.requires.callable.clock; peers = c.tried.ensures.tried; settings = refl }))

pub returns-clause-less : goal.returns-clause-less
returns-clause-less c =
    tried_off c.args.self.now (record c.args.self.now { peers = c.tried.new.self }) c.args.now.0 c.send_bubble.new.step (c.tried.ensures.less c.requires.overdue) (ap (λ (s : Step). s.fate) c.send_bubble.ensures)
