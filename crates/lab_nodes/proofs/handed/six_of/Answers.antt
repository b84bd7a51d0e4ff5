use Rattle.lab_nodes.proofs.handed.six_of.Goals as goal

pub returns-in-Arrived-clause-made : goal.returns-in-Arrived-clause-made
returns-in-Arrived-clause-made c = rw (c.in-Arrived.is) (c.part_copied.ensures.made c.in-Arrived.src)
