use Rattle.relay_core.proofs.Words.{Ep, Relay, RelayEnters, Some, Step, Updates, from_six, known_to, refl, subst, sym, touch_goes_on, touched_at, trusted_at, wordless_entry}
use Rattle.relay_core.proofs.Transmitted.{sent_cone}
use Rattle.relay_core.proofs.relay.Relay.send_cone.Goals as goal

pub trust-requires-clause-listed : goal.trust-requires-clause-listed
trust-requires-clause-listed c =
    (touch_goes_on c.args.self.now.peers c.list.new.self c.args.now.0 c.args.who (touched_at c.args.now.0 (known_to c.args.self.now.peers c.args.now.0 c.args.who)) refl c.in_ok-list.ensures.listed).listed

pub returns-clause-entered : goal.returns-clause-entered
returns-clause-entered c =
    let old = c.args.self.now in
    let n = c.args.now.0 in
    let new : Relay = record old { peers = c.trust.new.self } in
    subst (λ (s : Step). RelayEnters old (wordless_entry n (from_six c.args.bytes.now) (Some c.args.bytes.now) (Some c.args.who) s) new) (sym c.send_packet.ensures)
    (sent_cone old new n c.args.who c.args.bytes.now (record {
      clock = c.requires.callable.clock;
      cone = c.requires.cone;
      mid = c.list.new.self;
      listed = c.in_ok-list.ensures.listed;
      trusted = subst (λ (at : Ep). Updates c.list.new.self new.peers n c.args.who (trusted_at n at (known_to c.list.new.self n c.args.who))) c.embedded.ensures c.trust.ensures;
      settings = refl;
    }))
