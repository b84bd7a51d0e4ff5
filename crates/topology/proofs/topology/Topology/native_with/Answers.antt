use Rattle.topology.proofs.Words.{sym, ◌∙◌}
use Rattle.topology.proofs.Numbering.{with_an_address}
use Rattle.topology.proofs.topology.Topology.native_with.Goals as goal

pub returns : goal.returns
returns c = c.number_with.ensures ∙ sym (with_an_address c.args.ip c.args.self.now)
