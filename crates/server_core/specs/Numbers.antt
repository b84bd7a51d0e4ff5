-- The lengths of what a server sends.
use Rattle.std.specs.Prelude.{◌≡◌}
use Rattle.server_core.specs.declared.advertisement.TheConstants.{ADVERTISEMENT}
use Rattle.server_core.specs.declared.server.TheConstants.{GROWTH_MAX}

-- the lengths of what a server sends are the standard's
pub record ServerNumbers : Type 0 where
  -- an advertisement with a prefix and an MTU: RFC 4861, sections 4.2, 4.6.2 and 4.6.4
  pub advertisement : ADVERTISEMENT ≡ 56
  -- how many bytes an output is longer than its input at most
  pub growth_most : GROWTH_MAX ≡ 56
