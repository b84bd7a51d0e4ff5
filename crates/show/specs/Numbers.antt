-- How long the parts of a page are, in bytes.
use Rattle.std.specs.Prelude.{◌≡◌}
use Rattle.show.specs.declared.page.TheConstants.{PAGE_LEN}
use Rattle.show.specs.declared.payload_lines.TheConstants.{KEY_MAX, FLAGS}

-- the numbers of a page are those of the standard, or of this project
pub record ShowNumbers : Type 0 where
  -- RFC 4380, section 5.1.1: an identifier's and an authentication value's length is one byte
  pub key_most : KEY_MAX ≡ 255
  -- RFC 4380, section 4: the flags of an address
  pub flags : FLAGS ≡ 2
  -- the most of a page: our choice
  pub page : PAGE_LEN ≡ 8192
