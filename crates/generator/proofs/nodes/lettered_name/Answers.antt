use Rattle.generator.proofs.Names.{lettered_is}
use Rattle.generator.proofs.nodes.lettered_name.Goals as goal

pub returns : goal.returns
returns c = lettered_is c.args.letter c.args.k _ _ _
