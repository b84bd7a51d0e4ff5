use Rattle.client_core.proofs.Words.{Client, Option, ap, false, first_due_in, is_due, is_some, peer_due, refl, sym, words_ahead, ℕ, ◌∙◌, ◌≡◌}
use Rattle.client_core.proofs.Ticked.{ticked_does, of_peers, asked}
use Rattle.client_core.proofs.Owed.{OfPhase, phase_idles, phase_lessens, peers_idle_too, peers_lessen, some_too}
use Rattle.client_core.proofs.client.Client.tick.Goals as goal

pub returns-then-is_past : goal.returns-then-is_past
returns-then-is_past c =
    let old = c.args.self.now in
    let n = c.args.now.0 in
    let new : Client = record old { qualifier = c.on_tick.new.self; rng = c.on_tick.new.rng } in
    let due = ap (λ (d : Option ℕ). is_due n d) (sym c.due.ensures.value) ∙ sym c.is_past.ensures ∙ c.if-is_past.true in
    let of_phase : OfPhase old n (words_ahead old) c.on_tick.new.step new = record {
      due = due;
      some = ap (λ (d : Option ℕ). is_some d) (sym c.due.ensures.value) ∙ some_too c.due.result ∙ c.due.ensures.some;
      does = c.on_tick.ensures.does;
      done = c.on_tick.ensures.done;
      peers = refl;
    } in
    record {
      done = asked old new n c.on_tick.new.step (record {
        clock = c.requires.callable.clock;
        due = due;
        did = c.on_tick.ensures.step;
        stands = c.on_tick.ensures.stands;
        place = c.on_tick.ensures.place;
        settings = c.on_tick.ensures.settings;
        peers = refl;
      });
      idle = phase_idles old new n (words_ahead old) c.on_tick.new.step of_phase;
      less = phase_lessens old new n (words_ahead old) c.on_tick.new.step of_phase;
    }

pub returns : goal.returns
returns c =
    let old = c.args.self.now in
    let n = c.args.now.0 in
    let phase : is_due n old.qualifier.now.due ≡ false = ap (λ (d : Option ℕ). is_due n d) (sym c.due.ensures.value) ∙ sym c.is_past.ensures ∙ c.if-is_past.false in
    record {
      done = ticked_does old c.tick_peer.new.self n c.tick_peer.new.step (record {
        clock = c.requires.callable.clock;
        due = peer_due n (first_due_in old.peers n);
        is = of_peers old n phase;
        did = λ j h. c.tick_peer.ensures.step;
        entered = c.tick_peer.ensures.entered;
      });
      idle = peers_idle_too old c.tick_peer.new.self n c.tick_peer.new.step phase c.tick_peer.ensures.less;
      less = peers_lessen old c.tick_peer.new.self n c.tick_peer.new.step phase c.tick_peer.ensures.less;
    }
