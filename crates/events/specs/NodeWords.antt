-- The nodes that words name.
use Rattle.std.specs.Prelude.{List, ℕ, option_map, Option}
use Rattle.std.specs.Option.{option_or}
use Rattle.events.specs.declared.target.Target.{Target}
use Rattle.events.specs.declared.target.Target.TheVariants as target
use Rattle.topology.specs.Rows.{TopologyState}
use Rattle.topology.specs.Named.{has_host, named}
use Rattle.td_base.specs.Ip6Values.{ip6_of}

-- whom a word names: a client or native host, or else an IPv6 address
abbrev pub target_of : TopologyState → List ℕ → Option Target
target_of t text = option_or (option_map target.Node (named has_host t text)) (option_map target.At (ip6_of text))
