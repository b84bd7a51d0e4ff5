-- The text `-` asks for no chain.
use Rattle.std.proofs.Common.{◌≡◌, true, false, List, [], Some, None}
use Rattle.std.specs.Prelude.{Bool, if◌then◌else◌}
use Rattle.topology.specs.Chains.{Behind}
use Rattle.td_chain.specs.ChainRules.{is_chain}
use Rattle.td_chain.specs.ChainText.{chain_named}
use Rattle.td_nested.specs.Nested.{DashIsFlat}

taken : (b : Bool) (chain : List Behind) → (if b then Some [] else None) ≡ Some chain → chain ≡ []
taken true chain is = cc
taken false chain is = cc

pub dash_is_flat : DashIsFlat
unfolding chain_named
dash_is_flat t chain n = taken (is_chain t []) chain n.asked
