use Rattle.load_keeper.proofs.Words.{arith}
use Rattle.load_keeper.proofs.Nodes.{one_noted}
use Rattle.load_keeper.proofs.load_keeper.LoadKeeper.note.Goals as goal

pub returns-clause-nodes : goal.returns-clause-nodes
returns-clause-nodes c = one_noted c.args.t.now c.args.record.now c.args.peer c.args.from c.args.load c.args.self.now.nodes.items c.from-place.result c.note_record.new.self
    (rw c.from-place.ensures c.in-Some.is) (omega (arith, c.if-place-len.false, c.len.ensures, c.args.self.now.nodes.ok.0)) c.index_mut.ensures.value c.node.ensures.found c.in_ok-note_record.ensures
