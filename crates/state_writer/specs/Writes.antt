-- The lines on facts that are written of one record, or before any.
use Rattle.std.specs.Prelude.{ℕ, List, [], map, drop, Option, Result}
use Rattle.td_outside.specs.Sink.{SinkState}
use Rattle.topology.specs.Rows.{TopologyState}
use Rattle.topology.specs.Topology.{nodes}
use Rattle.legal.specs.Past.{new_journal}
use Rattle.sink_lines.specs.Lines.{Writing}
use Rattle.states.specs.Facts.{NodeFact}
use Rattle.states.specs.Kept.{facts_from}
use Rattle.states.specs.StateLines.{fact_line}

-- The lines on these facts were written, or the sink failed: a line each, of a record of this number and moment, or of none.
abbrev pub WritesFacts : {E : Type 0} → TopologyState → Option ℕ → ℕ → SinkState → SinkState → List NodeFact → Result (Unit {0}) E → Type 0
WritesFacts {E} t i m old new facts result = Writing {E = E} old new (map (fact_line t i m) facts) result

-- what the nodes from number n on keep before any record
abbrev pub first_facts : TopologyState → ℕ → List NodeFact
first_facts t n = facts_from t (λ k. []) (λ k. new_journal 0) 0 n (drop n (nodes t))
