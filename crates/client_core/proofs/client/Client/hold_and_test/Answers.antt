use Rattle.client_core.proofs.Words.{List, Some, Step, TakesPayload, Updates, held_at, hold_goes_on, known_to, nonce_from, payload_view, subst, sym, tried_at, words_ahead, ℕ}
use Rattle.teredo_node.specs.declared.fate.Fate.TheVariants as fate
use Rattle.client_core.proofs.Holds.{held_test}
use Rattle.client_core.proofs.client.Client.hold_and_test.Goals as goal

pub test_peer-requires-clause-listed : goal.test_peer-requires-clause-listed
test_peer-requires-clause-listed c = (hold_goes_on c.args.self.now.peers c.hold.new.self c.args.now.0 c.args.payload.now.packet.src c.args.from c.args.packet.now c.in_ok-hold.ensures.held).listed

pub returns-clause-done : goal.returns-clause-done
returns-clause-done c =
    let old = c.args.self.now in
    let n = c.args.now.0 in
    let v = payload_view c.args.payload.now in
    let t = c.test_peer in
    let nonce = nonce_from (words_ahead old) in
    subst (λ (s : Step). TakesPayload old n c.args.from v fate.HeldTest s t.new.self) (sym t.ensures.step)
    (held_test old t.new.self n c.args.from v (record {
      clock = c.requires.callable.clock;
      peers = subst (λ (x : List ℕ). Updates old.peers t.new.self.peers n v.packet.src (tried_at n (Some nonce) (held_at n c.args.from x (known_to old.peers n v.packet.src)))) c.requires.packet
          ((hold_goes_on old.peers c.hold.new.self n v.packet.src c.args.from c.args.packet.now c.in_ok-hold.ensures.held).next t.new.self.peers (tried_at n (Some nonce)) t.ensures.peers);
      qualifier = t.ensures.qualifier;
      place = t.ensures.place;
    }))
