-- The records that a world fills.
use Rattle.std.specs.Prelude.{ℕ, [], Option, None}
use Rattle.teredo_node.specs.declared.fate.Fate.{Fate}
use Rattle.teredo_node.specs.declared.fate.Fate.TheVariants as fate
use Rattle.history.specs.declared.act.Act.{Act}
use Rattle.history.specs.declared.act.Act.TheVariants as act
use Rattle.history.specs.declared.records.Record.{Record}

-- the record of an event at a moment that doesn't say yet what was done
abbrev pub fresh_record : ℕ → ℕ → Record
fresh_record index m = record {
  event = index;
  moment = record { 0 = m };
  act = act.Tick;
  node = None;
  fate = fate.Idle;
  address = None;
  handed = None;
  late = [];
  gone = 0;
  marks = [];
}

-- what was done, by which node, and by which rule
abbrev pub with_deed : Record → Act → Option ℕ → Fate → Record
with_deed r a node f = record r { act = a; node = node; fate = f }
