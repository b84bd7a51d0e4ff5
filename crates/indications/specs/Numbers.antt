-- The lengths of authentications and origins.
use Rattle.std.specs.Prelude.{◌≡◌}
use Rattle.indications.specs.declared.blocks.TheConstants.{AUTH_HEAD, NONCE, AUTH_TAIL, AUTH, ORIGIN}

-- the lengths of authentications and origins are the standard's
pub record LeadNumbers : Type 0 where
  -- RFC 4380, section 5.1.1
  pub auth_head : AUTH_HEAD ≡ 4
  pub nonce : NONCE ≡ 8
  pub auth_tail : AUTH_TAIL ≡ 9
  pub auth : AUTH ≡ 13
  pub origin : ORIGIN ≡ 8
