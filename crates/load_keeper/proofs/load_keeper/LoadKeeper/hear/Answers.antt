use Rattle.load_keeper.proofs.Words.{node_kept}
use Rattle.load_keeper.proofs.Stands.{Calls, hears}
use Rattle.load_keeper.proofs.load_keeper.LoadKeeper.hear.Goals as goal

pub returns : goal.returns
returns c = λ H r stands heard.
    let calls : Calls c.args.t.now c.args.self.now c.carry.new.self c.note.new.self c.count.new.self c.args.record.now c.args.peer c.args.from c.say_all.new.said.items = record {
      cleared = c.clear.new.self.items;
      load = c.given-load.result;
      who = c.unwrap_or-who.result;
      kept = node_kept c.node-node.result.now;
      released = c.in_ok-released.released.items;
      is_cleared = c.clear.ensures.items;
      is_given = c.given-load.ensures;
      is_who = c.unwrap_or-who.ensures;
      is_kept = c.node-node.ensures;
      is_said = c.in_ok-released.ensures.said;
      is_released = c.in_ok-released.ensures.released;
      wire1 = rw c.deref.ensures.value at c.in_ok-carry.ensures.wire;
      packets1 = c.in_ok-carry.ensures.packets;
      nodes1 = c.in_ok-carry.ensures.nodes;
      nodes2 = c.in_ok-note.ensures.nodes;
      wire2 = c.in_ok-note.ensures.wire;
      packets2 = c.in_ok-note.ensures.packets;
      packets3 = c.in_ok-count.ensures.packets;
      wire3 = c.in_ok-count.ensures.wire;
      nodes3 = c.in_ok-count.ensures.nodes;
    } in
    hears _ _ _ _ _ _ _ _ _ calls H r stands heard
