-- The line of a scenario that isn't one for NATs behind others.
use Rattle.std.specs.Prelude.{ℕ, List, ◌++◌, codes, decimal}
use Rattle.teredo_app.specs.declared.nested_line.NotNested.{NotNested}
use Rattle.teredo_app.specs.declared.nested_line.NotNested.TheVariants.{Chain, Nodes, Event}

-- the line of why a scenario isn't played with NATs behind others
abbrev pub not_nested_line : NotNested → List ℕ
not_nested_line Chain = codes "nested: chain\n"
not_nested_line Nodes = codes "nested: nodes\n"
not_nested_line (Event index) = codes "nested events[" ++ (decimal index ++ codes "]\n")
