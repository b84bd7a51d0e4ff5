use Rattle.lab_nodes.proofs.Words.{AreQuiet, List, Millis, NoneIsSooner, PlayedNode, subst}
use Rattle.lab_nodes.proofs.nodes.Nodes.new.Goals as goal

pub invariant_of-result : goal.invariant_of-result
invariant_of-result c = record {
  each = subst (λ (list : List PlayedNode). AreQuiet list c.in_ok-quiet.quiet.items) c.as_slice.ensures.value c.in_ok-quiet.ensures;
  none = subst (λ (quiet : List Millis). NoneIsSooner c.soonest_of-soonest.result quiet) c.as_slice-2.ensures.value c.soonest_of-soonest.ensures;
}
