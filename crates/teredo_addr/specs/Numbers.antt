-- The numbers of Teredo addresses.
use Rattle.std.specs.Prelude.{◌≡◌}
use Rattle.teredo_addr.specs.declared.address.TheConstants.{TEREDO_PREFIX}
use Rattle.teredo_addr.specs.declared.fields.TheConstants.{CONE}
use Rattle.teredo_addr.specs.declared.flags.TheConstants.{FREE_FLAGS}
use Rattle.teredo_addr.specs.declared.hidden_endpoint.TheConstants.{HIDDEN}

-- the numbers of Teredo addresses are the standard's
pub record AddressNumbers : Type 0 where
  -- RFC 4380, sections 2.6, 4 and 5.1.1
  pub prefix : TEREDO_PREFIX ≡ 0x20010000
  pub cone : CONE ≡ 0x8000
  pub hidden : HIDDEN ≡ 6
  -- RFC 5991, section 3.1
  pub free : FREE_FLAGS ≡ 0x3cff
