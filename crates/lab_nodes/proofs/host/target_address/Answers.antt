use Rattle.lab_nodes.proofs.host.target_address.Goals as goal

pub returns-in-Node : goal.returns-in-Node
returns-in-Node c = λ lab H of. rw (c.in-Node.is) (c.address_at.ensures lab H of)
