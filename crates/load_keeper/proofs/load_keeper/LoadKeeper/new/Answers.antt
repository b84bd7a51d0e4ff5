use Rattle.load_keeper.proofs.Words.{refl}
use Rattle.load_keeper.proofs.Nodes.{stands_new}
use Rattle.load_keeper.proofs.load_keeper.LoadKeeper.new.Goals as goal

pub returns : goal.returns
returns c = stands_new c.args.t.now _ refl c.new.ensures.items c.in_ok-nodes.ensures
