-- How the moments of a capture are told: a history's moments are milliseconds.
use Rattle.std.specs.Prelude.{◌≡◌}
use Rattle.player.specs.declared.entry_record.TheConstants.{SECOND_MS, MILLI_MICROS}

-- a capture's seconds and their fractions are those of the format
pub record MomentNumbers : Type 0 where
  -- the classic form of libpcap's files has whole seconds
  pub second : SECOND_MS ≡ 1000
  -- and beside them microseconds
  pub milli : MILLI_MICROS ≡ 1000
