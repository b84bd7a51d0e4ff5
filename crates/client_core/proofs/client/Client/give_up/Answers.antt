use Rattle.client_core.proofs.Words.{Enters, None, Some, Step, ap, entry, just, refl, subst, sym, ticked, words_ahead, ◌∙◌, ◌≡◌}
use Rattle.teredo_node.specs.declared.fate.Fate.TheVariants as fate
use Rattle.client_core.proofs.TickActs.{gave_up}
use Rattle.client_core.proofs.Owed.{given_up}
use Rattle.client_core.proofs.client.Client.give_up.Goals as goal

pub returns-clause-entered : goal.returns-clause-entered
returns-clause-entered c =
    let n = c.args.now.0 in
    let old = c.args.self.now in
    let step : c.set_gone.new.self ≡ record (just fate.GiveUp) { gone = c.give_up-gone.result } = c.set_gone.ensures ∙ (λ i. record (c.reset.ensures i) { gone = c.from.ensures i }) in
    subst (λ (s : Step). Enters old (entry n ticked None (Some c.args.who) (words_ahead old) s) (record old { peers = c.give_up-gone.new.self })) (sym step)
    (gave_up old (record old { peers = c.give_up-gone.new.self }) n c.args.who c.give_up-gone.result
    (record { clock = c.requires.callable.clock; peers = c.give_up-gone.ensures.rest; qualifier = refl; rng = refl }))

pub returns-clause-less : goal.returns-clause-less
returns-clause-less c =
    let old = c.args.self.now in
    given_up old (record old { peers = c.give_up-gone.new.self }) c.args.now.0 c.set_gone.new.self (c.give_up-gone.ensures.less c.requires.overdue) refl
    (ap (λ (s : Step). s.fate) (c.set_gone.ensures ∙ (λ i. record (c.reset.ensures i) { gone = c.from.result })))
