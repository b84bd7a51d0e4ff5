use Rattle.topology.proofs.Words.{sym, ◌∙◌}
use Rattle.topology.proofs.Numbering.{client_at}
use Rattle.topology.proofs.names.client_named.Goals as goal

pub returns : goal.returns
returns c = c.number_behind.ensures ∙ sym (client_at c.args.t.now c.args.nat c.args.word.now)
