use Rattle.relay_core.proofs.Words.{None, RelayEnters, Some, Step, ap, just, refl, subst, sym, ticked, wordless_entry, ◌∙◌, ◌≡◌}
use Rattle.teredo_node.specs.declared.fate.Fate.TheVariants as fate
use Rattle.relay_core.proofs.Ticked.{gave_up}
use Rattle.relay_core.proofs.Owed.{given_up}
use Rattle.relay_core.proofs.relay.Relay.give_up.Goals as goal

pub returns-clause-entered : goal.returns-clause-entered
returns-clause-entered c =
    let old = c.args.self.now in
    let n = c.args.now.0 in
    let step : c.set_gone.new.self ≡ record (just fate.GiveUp) { gone = c.give_up-gone.result } = c.set_gone.ensures ∙ (λ i. record (c.reset.ensures i) { gone = c.from.ensures i }) in
    subst (λ (s : Step). RelayEnters old (wordless_entry n ticked None (Some c.args.who) s) (record old { peers = c.give_up-gone.new.self })) (sym step)
    (gave_up old (record old { peers = c.give_up-gone.new.self }) n c.args.who c.give_up-gone.result
    (record { clock = c.requires.callable.clock; peers = c.give_up-gone.ensures.rest; settings = refl }))

pub returns-clause-less : goal.returns-clause-less
returns-clause-less c =
    given_up c.args.self.now (record c.args.self.now { peers = c.give_up-gone.new.self }) c.args.now.0 c.set_gone.new.self (c.give_up-gone.ensures.less c.requires.overdue)
    (ap (λ (s : Step). s.fate) (c.set_gone.ensures ∙ (λ i. record (c.reset.ensures i) { gone = c.from.result })))
