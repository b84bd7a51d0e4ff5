use Rattle.relay_core.proofs.Words.{RelayDoes, Step, arrived, payload_view, subst, sym}
use Rattle.relay_core.proofs.Read.{received, malformed}
use Rattle.relay_core.proofs.relay.Relay.receive.Goals as goal

pub returns-in_default : goal.returns-in_default
returns-in_default c =
    subst (λ (s : Step). RelayDoes c.args.self.now c.args.now.0 (arrived c.args.from c.args.bytes.now) s c.args.self.now) (sym c.reset.ensures)
    (malformed c.args.self.now c.args.now.0 c.args.from c.args.bytes.now c.requires.callable.clock c.in_default.ensures.unseen)

pub returns : goal.returns
returns c =
    received c.args.self.now c.receive_payload.new.self c.args.now.0 c.args.from c.args.bytes.now c.receive_payload.new.step (record {
      told = payload_view c.in-Ok.payload;
      read = record { clock = c.requires.callable.clock; payload = c.in-Ok.ensures.seen.0; of = record { value = c.in-Ok.ensures.seen.1; inside = c.in-Ok.ensures.inside } };
      took = c.receive_payload.ensures;
    })
