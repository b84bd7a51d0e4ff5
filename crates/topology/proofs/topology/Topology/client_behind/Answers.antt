use Rattle.topology.proofs.Words.{sym, ◌∙◌}
use Rattle.topology.proofs.Numbering.{behind_a_nat}
use Rattle.topology.proofs.topology.Topology.client_behind.Goals as goal

pub returns : goal.returns
returns c = c.number_behind.ensures ∙ sym (behind_a_nat c.args.nat c.args.inside c.args.self.now)
