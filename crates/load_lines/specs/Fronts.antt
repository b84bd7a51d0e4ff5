-- What a line on a load begins with.
use Rattle.std.specs.Prelude.{ℕ, List, ◌++◌, codes, decimal}
use Rattle.teredo_node.specs.Fate.{fate_word}
use Rattle.topology.specs.Rows.{TopologyState}
use Rattle.history.specs.declared.records.Record.{Record}
use Rattle.report.specs.Lines.{node_text}

-- the number of a record, its moment, its node and its fate, by what its line tells
abbrev pub front_by_record : TopologyState → ℕ → Record → List ℕ
front_by_record t i r = decimal i ++ (codes " " ++ (decimal r.moment.0 ++ (codes " " ++ (node_text t r.node ++ (codes " " ++ fate_word r.fate)))))
