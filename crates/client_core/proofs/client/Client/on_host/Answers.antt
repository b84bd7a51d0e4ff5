use Rattle.client_core.proofs.Words.{Client, Does, Ip6, Option, Step, [], ap, arith, embedded, given, is_some, on_err_always, on_ok_both, packet_view, refl, send, sending, subst, sym, with_send, ◌∙◌, ◌∷◌, ◌≡◌}
use Rattle.teredo_node.specs.declared.fate.Fate.TheVariants as fate
use Rattle.client_core.proofs.Transmitted.{off, malformed, drops_packet, sent, sent_cone, transmitted, short, wants_queue}
use Rattle.client_core.proofs.client.Client.on_host.Goals as goal

pub returns-in_default-clause-done : goal.returns-in_default-clause-done
returns-in_default-clause-done c =
    subst (λ (s : Step). Does c.args.self.now c.args.now.0 (given c.args.bytes.now) s c.args.self.now) (sym c.reset.ensures)
    (off c.args.self.now c.args.now.0 c.args.bytes.now c.requires.callable.clock (sym c.address.ensures.qualified ∙ ap (λ (o : Option Ip6). is_some o) c.in_default.is))

pub returns-in_default-read-clause-done : goal.returns-in_default-read-clause-done
returns-in_default-read-clause-done c =
    subst (λ (s : Step). Does c.args.self.now c.args.now.0 (given c.args.bytes.now) s c.args.self.now) (sym c.reset-in_default-read.ensures)
    (malformed c.args.self.now c.args.now.0 c.args.bytes.now c.requires.callable.clock (sym c.address.ensures.qualified ∙ ap (λ (o : Option Ip6). is_some o) c.in-Some.is) c.in_default-read.ensures.unseen)

pub push-requires-clause-short : goal.push-requires-clause-short
push-requires-clause-short c = omega (arith, short c.args.bytes.now (packet_view c.in-Ok.packet) c.in-Sent.ensures.small c.in-Ok.ensures.inside)

pub push-requires-in-SentCone-clause-short : goal.push-requires-in-SentCone-clause-short
push-requires-in-SentCone-clause-short c = omega (arith, short c.args.bytes.now (packet_view c.in-Ok.packet) c.in-SentCone.ensures.small c.in-Ok.ensures.inside)

pub queue-requires-clause-short : goal.queue-requires-clause-short
queue-requires-clause-short c = short c.args.bytes.now (packet_view c.in-Ok.packet) c.in-Queued.ensures.small c.in-Ok.ensures.inside

pub returns-in-Drop-clause-done : goal.returns-in-Drop-clause-done
returns-in-Drop-clause-done c =
    subst (λ (s : Step). Does c.args.self.now c.args.now.0 (given c.args.bytes.now) s c.args.self.now) (sym c.reset-in-Drop.ensures)
    (drops_packet c.args.self.now c.args.now.0 c.args.bytes.now (packet_view c.in-Ok.packet) c.in-Drop.fate
    (record {
      is = record { clock = c.requires.callable.clock; packet = c.in-Ok.ensures.seen.0; fields = c.in-Ok.ensures.seen.1 };
      row = c.in-Drop.ensures.row;
    }) c.in-Drop.ensures.warrant)

pub returns-in-Sent-clause-done : goal.returns-in-Sent-clause-done
returns-in-Sent-clause-done c =
    let old = c.args.self.now in
    let new : Client = record old { peers = c.touch.new.self } in
    let step : c.push.new.self ≡ sending fate.Sent (send c.in-Sent.to c.args.bytes.now ∷ []) = c.push.ensures ∙ (λ i. with_send (c.reset-in-Sent.ensures i) (send c.in-Sent.to c.args.bytes.now)) in
    subst (λ (s : Step). Does old c.args.now.0 (given c.args.bytes.now) s new) (sym step)
    (sent old new c.args.now.0 c.args.bytes.now (packet_view c.in-Ok.packet) c.in-Sent.to (record {
      line = record {
        is = record { clock = c.requires.callable.clock; packet = c.in-Ok.ensures.seen.0; fields = c.in-Ok.ensures.seen.1 };
        row = c.in-Sent.ensures.row;
      };
      trusted = c.in-Sent.ensures.warrant.trusted;
      touched = record { clock = c.requires.callable.clock; peers = c.touch.ensures; qualifier = refl; rng = refl };
    }))

pub returns-in-SentCone-clause-done : goal.returns-in-SentCone-clause-done
returns-in-SentCone-clause-done c =
    let old = c.args.self.now in
    let p = packet_view c.in-Ok.packet in
    let step : c.push-in-SentCone.new.self ≡ sending fate.SentCone (send (embedded p.dst) c.args.bytes.now ∷ []) =
    c.push-in-SentCone.ensures ∙ (λ i. with_send (c.reset-in-SentCone.ensures i) (send (c.embedded.ensures i) c.args.bytes.now)) in
    subst (λ (s : Step). Does old c.args.now.0 (given c.args.bytes.now) s old) (sym step)
    (sent_cone old c.args.now.0 c.args.bytes.now p
    (record {
      is = record { clock = c.requires.callable.clock; packet = c.in-Ok.ensures.seen.0; fields = c.in-Ok.ensures.seen.1 };
      row = c.in-SentCone.ensures.row;
    }))

pub returns-in-Queued-clause-done : goal.returns-in-Queued-clause-done
returns-in-Queued-clause-done c =
    let old = c.args.self.now in
    let p = packet_view c.in-Ok.packet in
    on_ok_both c.queue.result
    (λ did entered. transmitted old c.queue.new.self c.args.now.0 c.args.bytes.now p c.queue.new.step (record {
      outcome = fate.Queued;
      line = record {
        is = record { clock = c.requires.callable.clock; packet = c.in-Ok.ensures.seen.0; fields = c.in-Ok.ensures.seen.1 };
        row = c.in-Queued.ensures.row;
      };
      did = did;
      entered = entered;
    }))
    c.queue.ensures.step c.queue.ensures.entered

pub returns-in-Queued-clause-starved : goal.returns-in-Queued-clause-starved
returns-in-Queued-clause-starved c =
    on_err_always c.queue.result
    (wants_queue c.args.self.now c.args.now.0 c.args.bytes.now (packet_view c.in-Ok.packet)
    (record {
      is = record { clock = c.requires.callable.clock; packet = c.in-Ok.ensures.seen.0; fields = c.in-Ok.ensures.seen.1 };
      row = c.in-Queued.ensures.row;
    }))
