use Rattle.relay_core.proofs.Words.{Relay, RelayDoes, Step, from_six, on_err_always, on_err_weaker, on_ok_both, packet_view, refl, subst, sym}
use Rattle.teredo_node.specs.declared.fate.Fate.TheVariants as fate
use Rattle.relay_core.proofs.Transmitted.{malformed, drops_packet, sent, transmitted, short, wants_queue, wants_place}
use Rattle.relay_core.proofs.relay.Relay.on_six.Goals as goal

pub returns-in_default-clause-done : goal.returns-in_default-clause-done
returns-in_default-clause-done c =
    subst (λ (s : Step). RelayDoes c.args.self.now c.args.now.0 (from_six c.args.bytes.now) s c.args.self.now) (sym c.reset.ensures)
    (malformed c.args.self.now c.args.now.0 c.args.bytes.now c.requires.callable.clock c.in_default.ensures.unseen)

pub send_packet-requires : goal.send_packet-requires
send_packet-requires c = record { short = short c.args.bytes.now (packet_view c.in-Ok.packet) c.in-Sent.ensures.small c.in-Ok.ensures.inside }

pub send_cone-requires-clause-short : goal.send_cone-requires-clause-short
send_cone-requires-clause-short c = short c.args.bytes.now (packet_view c.in-Ok.packet) c.in-SentCone.ensures.small c.in-Ok.ensures.inside

pub queue-requires-clause-short : goal.queue-requires-clause-short
queue-requires-clause-short c = short c.args.bytes.now (packet_view c.in-Ok.packet) c.in-Queued.ensures.small c.in-Ok.ensures.inside

pub returns-in-Drop-clause-done : goal.returns-in-Drop-clause-done
returns-in-Drop-clause-done c =
    subst (λ (s : Step). RelayDoes c.args.self.now c.args.now.0 (from_six c.args.bytes.now) s c.args.self.now) (sym c.reset-in-Drop.ensures)
    (drops_packet c.args.self.now c.args.now.0 c.args.bytes.now (packet_view c.in-Ok.packet) c.in-Drop.fate
    (record {
      is = record { clock = c.requires.callable.clock; read = record { packet = c.in-Ok.ensures.seen.0; fields = c.in-Ok.ensures.seen.1 } };
      row = c.in-Drop.ensures.row;
    }) c.in-Drop.ensures.warrant)

pub returns-in-Sent-clause-done : goal.returns-in-Sent-clause-done
returns-in-Sent-clause-done c =
    let old = c.args.self.now in
    let new : Relay = record old { peers = c.touch.new.self } in
    subst (λ (s : Step). RelayDoes old c.args.now.0 (from_six c.args.bytes.now) s new) (sym c.send_packet.ensures)
    (sent old new c.args.now.0 c.args.bytes.now (packet_view c.in-Ok.packet)
    (record {
      is = record { clock = c.requires.callable.clock; read = record { packet = c.in-Ok.ensures.seen.0; fields = c.in-Ok.ensures.seen.1 } };
      row = c.in-Sent.ensures.row;
    })
    (record { clock = c.requires.callable.clock; peers = c.touch.ensures; settings = refl }))

pub returns-in-SentCone-clause-done : goal.returns-in-SentCone-clause-done
returns-in-SentCone-clause-done c =
    let old = c.args.self.now in
    let p = packet_view c.in-Ok.packet in
    on_ok_both c.send_cone.result
    (λ did entered. transmitted old c.send_cone.new.self c.args.now.0 c.args.bytes.now p c.send_cone.new.step (record {
      outcome = fate.SentCone;
      line = record {
        is = record { clock = c.requires.callable.clock; read = record { packet = c.in-Ok.ensures.seen.0; fields = c.in-Ok.ensures.seen.1 } };
        row = c.in-SentCone.ensures.row;
      };
      did = did;
      entered = entered;
    }))
    c.send_cone.ensures.step c.send_cone.ensures.entered

pub returns-in-SentCone-clause-starved : goal.returns-in-SentCone-clause-starved
returns-in-SentCone-clause-starved c =
    on_err_weaker c.send_cone.result
    (wants_place c.args.self.now c.args.now.0 c.args.bytes.now (packet_view c.in-Ok.packet)
    (record {
      is = record { clock = c.requires.callable.clock; read = record { packet = c.in-Ok.ensures.seen.0; fields = c.in-Ok.ensures.seen.1 } };
      row = c.in-SentCone.ensures.row;
    }))
    c.send_cone.ensures.unlisted

pub returns-in-Queued-clause-done : goal.returns-in-Queued-clause-done
returns-in-Queued-clause-done c =
    let old = c.args.self.now in
    let p = packet_view c.in-Ok.packet in
    on_ok_both c.queue.result
    (λ did entered. transmitted old c.queue.new.self c.args.now.0 c.args.bytes.now p c.queue.new.step (record {
      outcome = fate.Queued;
      line = record {
        is = record { clock = c.requires.callable.clock; read = record { packet = c.in-Ok.ensures.seen.0; fields = c.in-Ok.ensures.seen.1 } };
        row = c.in-Queued.ensures.row;
      };
      did = did;
      entered = entered;
    }))
    c.queue.ensures.step c.queue.ensures.entered

pub returns-in-Queued-clause-starved : goal.returns-in-Queued-clause-starved
returns-in-Queued-clause-starved c =
    on_err_always c.queue.result
    (wants_queue c.args.self.now c.args.now.0 c.args.bytes.now (packet_view c.in-Ok.packet)
    (record {
      is = record { clock = c.requires.callable.clock; read = record { packet = c.in-Ok.ensures.seen.0; fields = c.in-Ok.ensures.seen.1 } };
      row = c.in-Queued.ensures.row;
    }))
