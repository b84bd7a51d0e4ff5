use Rattle.client_core.proofs.Words.{Step, TakesPayload, payload_view, subst, sym}
use Rattle.teredo_node.specs.declared.fate.Fate.TheVariants as fate
use Rattle.client_core.proofs.Holds.{suspicious_test}
use Rattle.client_core.proofs.client.Client.test_source.Goals as goal

pub returns : goal.returns
returns c from =
    let n = c.args.now.0 in
    let v = payload_view c.args.payload.now in
    let t = c.test_peer in
    subst (λ (s : Step). TakesPayload c.args.self.now n from v fate.SuspiciousTest s t.new.self) (sym t.ensures.step)
    (suspicious_test c.args.self.now t.new.self n from v
    (record { clock = c.requires.callable.clock; peers = t.ensures.peers; qualifier = t.ensures.qualifier; place = t.ensures.place }))
