use Rattle.load_keeper.proofs.Waits.{names_holding}
use Rattle.load_keeper.proofs.load_keeper.LoadKeeper.holding_node.Goals as goal

pub returns : goal.returns
returns c = λ t H stands at.
    let first = rw c.deref.ensures.value at c.keeping_node.ensures.first in
    let within = rw c.deref.ensures.value at c.keeping_node.ensures.within in
    names_holding t c.args.self.now H stands c.args.load c.args.moment.0 at c.keeping_node.result c.number_of.result within c.number_of.ensures first
