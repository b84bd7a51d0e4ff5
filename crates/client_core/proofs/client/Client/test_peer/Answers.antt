use Rattle.client_core.proofs.Words.{Some, Updates, [], known_to, nonce_from, subst, test, tested, tried_at, words_ahead, ℕ, ◌∙◌, ◌∷◌}
use Rattle.client_core.proofs.client.Client.test_peer.Goals as goal

pub returns-clause-step : goal.returns-clause-step
returns-clause-step c =
    let old = c.args.self.now in
    c.send_test-nonce.ensures.step ∙ (λ i. record (tested old c.args.who c.args.fate) { sends = test (c.settings-settings.ensures.value i) (c.own_address-own.ensures i) c.args.who (nonce_from (words_ahead old)) ∷ [] })

pub returns-clause-peers : goal.returns-clause-peers
returns-clause-peers c =
    let old = c.args.self.now in
    subst (λ (k : ℕ). Updates old.peers c.tried.new.self c.args.now.0 c.args.who (tried_at c.args.now.0 (Some k) (known_to old.peers c.args.now.0 c.args.who))) c.send_test-nonce.ensures.nonce c.tried.ensures.tried
