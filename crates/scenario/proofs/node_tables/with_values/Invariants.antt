use Rattle.scenario.proofs.Words.{HasNoneBehind, drop, items_view, row_count, with_values, ◌+◌, ◌≡◌}
use Rattle.scenario.proofs.node_tables.with_values.Given as goal

abbrev pub invariant-loop-index : goal.invariant-loop-index
invariant-loop-index l = record {
  left : with_values l.kind l.index l.topology (items_view (drop l.index l.values)) ≡ with_values l.kind 0 l.initial.topology (items_view l.values);
  count : row_count l.kind l.topology ≡ row_count l.kind l.initial.topology + l.index;
  order : HasNoneBehind l.kind l.topology;
}
