-- The numbers of a client's test.
use Rattle.std.specs.Prelude.{◌≡◌}
use Rattle.client_rules.specs.declared.limits.TheConstants.{TEST_ID, TEST_SEQ}

-- of an echo request to a peer that isn't Teredo (RFC 4380, section 5.2.9); the standard leaves both open
pub record TestNumbers : Type 0 where
  pub identifier : TEST_ID ≡ 0
  pub sequence : TEST_SEQ ≡ 0
