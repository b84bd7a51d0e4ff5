-- NATs behind others, as they are kept.
use Rattle.topology.specs.Chains.{Behind}
use Rattle.td_chain.specs.declared.nesting.Nesting.{Nesting}

-- the pair of NATs that a nesting names
abbrev pub behind_of : Nesting → Behind
behind_of n = record { inner = n.inner; outer = n.outer }
