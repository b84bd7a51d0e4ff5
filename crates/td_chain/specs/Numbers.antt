-- The limit of a chain.
use Rattle.std.specs.Prelude.{◌≡◌}
use Rattle.td_chain.specs.declared.rules.TheConstants.{WAY_MAX}

-- the limit of a chain is the one that `docs/SCENARIOS.md` says
pub record ChainNumbers : Type 0 where
  -- the most NATs that stand one behind the other
  pub way_most : WAY_MAX ≡ 3
