use Rattle.client_core.proofs.Words.{Does, KeepsPlace, Step, arith, arrived, fate_in, on_err_weaker, on_ok_weaker, payload_view, subst, sym}
use Rattle.client_core.proofs.Read.{packet_of, packet_there, received, malformed, wants_place}
use Rattle.client_core.proofs.client.Client.receive.Goals as goal

pub returns-in_default-clause-done : goal.returns-in_default-clause-done
returns-in_default-clause-done c =
    subst (λ (s : Step). Does c.args.self.now c.args.now.0 (arrived c.args.from c.args.bytes.now) s c.args.self.now) (sym c.reset.ensures)
    (malformed c.args.self.now c.args.now.0 c.args.from c.args.bytes.now c.requires.callable.clock c.in_default.ensures.unseen)

pub returns-clause-done : goal.returns-clause-done
returns-clause-done c =
    let v = payload_view c.in-Ok.payload in
    on_ok_weaker c.receive_payload.result
    (λ took. received c.args.self.now c.receive_payload.new.self c.args.now.0 c.args.from c.args.bytes.now c.receive_payload.new.step (record {
      told = v;
      read = record { clock = c.requires.callable.clock; payload = c.in-Ok.ensures.seen.0; value = c.in-Ok.ensures.seen.1 };
      is = record {
        of = record { value = c.in-Ok.ensures.seen.1; inside = c.in-Ok.ensures.inside };
        packet = packet_there c.args.bytes.now v c.in-Ok.ensures.seen.0 c.in-Ok.ensures.seen.1
            (packet_of c.args.bytes.now v (λ i. omega (arith, c.type_inv.bytes i)) c.in-Ok.ensures.seen.0
            c.in-Ok.ensures.seen.1);
      };
      took = took;
    }))
    c.receive_payload.ensures.done

pub returns-clause-starved : goal.returns-clause-starved
returns-clause-starved c =
    let old = c.args.self.now in
    let n = c.args.now.0 in
    let v = payload_view c.in-Ok.payload in
    on_err_weaker c.receive_payload.result
    (λ (kept : KeepsPlace old n v (fate_in old n c.args.from v) c.receive_payload.new.self). wants_place old n c.args.from c.args.bytes.now v
    (record { clock = c.requires.callable.clock; payload = c.in-Ok.ensures.seen.0; value = c.in-Ok.ensures.seen.1 }) kept.room)
    c.receive_payload.ensures.kept
