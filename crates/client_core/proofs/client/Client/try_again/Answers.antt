use Rattle.client_core.proofs.Words.{Client, Enters, None, Option, Some, Step, Updates, ap, entry, is_teredo, known_to, refl, sending, subst, sym, ticked, tried_at, try_fate, try_sends, try_words, words_ahead, ℕ, ◌∙◌, ◌≡◌}
use Rattle.client_core.proofs.TickActs.{tried_again}
use Rattle.client_core.proofs.Owed.{tried_off}
use Rattle.client_core.proofs.client.Client.try_again.Goals as goal

pub returns-clause-entered : goal.returns-clause-entered
returns-clause-entered c =
    let n = c.args.now.0 in
    let old = c.args.self.now in
    let new : Client = record { qualifier = old.qualifier; peers = c.tried.new.self; rng = c.send_try-nonce.new.rng } in
    let sends = try_sends c.settings-settings.result.now c.own_address-own.result c.args.who (words_ahead old) in
    let step : c.send_try-nonce.new.step ≡ record (sending (try_fate (is_teredo c.args.who)) sends) { drawn = try_words c.args.who } =
    c.send_try-nonce.ensures.step ∙ (λ i. record (sending (c.fate_of_try-fate.ensures i) sends) { drawn = try_words c.args.who }) in
    subst (λ (s : Step). Enters old (entry n ticked None (Some c.args.who) (words_ahead old) s) new) (sym step)
    (tried_again old new n c.args.who sends (record {
      clock = c.requires.callable.clock;
      peers = subst (λ (k : Option ℕ). Updates old.peers c.tried.new.self n c.args.who (tried_at n k (known_to old.peers n c.args.who))) c.send_try-nonce.ensures.nonce c.tried.ensures.tried;
      qualifier = refl;
      place = c.send_try-nonce.ensures.place;
    }))

pub returns-clause-less : goal.returns-clause-less
returns-clause-less c =
    let old = c.args.self.now in
    let new : Client = record { qualifier = old.qualifier; peers = c.tried.new.self; rng = c.send_try-nonce.new.rng } in
    tried_off old new c.args.now.0 (is_teredo c.args.who) c.send_try-nonce.new.step (c.tried.ensures.less c.requires.overdue) refl
    (ap (λ (s : Step). s.fate) c.send_try-nonce.ensures.step ∙ c.fate_of_try-fate.ensures)
