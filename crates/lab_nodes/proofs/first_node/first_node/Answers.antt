use Rattle.lab_nodes.proofs.Words.{Node, Some, ap, ◌∙◌}
use Rattle.lab_nodes.proofs.Rows.{is_settings}
use Rattle.lab_nodes.proofs.first_node.first_node.Goals as goal

pub first_client-requires : goal.first_client-requires
first_client-requires c = record { settings = is_settings c.args.topology.now c.args.number c.in-Client.row c.clients-rules.ensures.rules (c.requires.there ∙ ap (λ (a : Node). Some a) c.in-Client.is) }
