use Rattle.lab_nodes.proofs.Quiet.{NoneSoonerSo}
use Rattle.lab_nodes.proofs.nodes.soonest_of.Given as goal

abbrev pub invariant-loop-until : goal.invariant-loop-until
invariant-loop-until l = NoneSoonerSo l.soonest l.quiet l.until-index
