use Rattle.topology.proofs.Words.{sym, ◌∙◌}
use Rattle.topology.proofs.Numbering.{at_an_endpoint}
use Rattle.topology.proofs.topology.Topology.at.Goals as goal

pub returns : goal.returns
returns c = c.number_at.ensures ∙ sym (at_an_endpoint c.args.dst c.args.self.now)
