-- How the client of a session is set up.
use Rattle.std.specs.Prelude.{◌≡◌}
use Rattle.td_live.specs.declared.asked.TheConstants.{REFRESH_LOW_MS, REFRESH_HIGH_MS, STREAM_NUMBER}

-- the numbers of a session are those of the standard, or of this project
pub record LiveNumbers : Type 0 where
  -- RFC 4380, section 5.2.5: between 75 and 100 per cent of 30 seconds, in milliseconds
  pub refresh_low : REFRESH_LOW_MS ≡ 22500
  pub refresh_high : REFRESH_HIGH_MS ≡ 30000
  -- our choice: the words of a laboratory's first node
  pub stream : STREAM_NUMBER ≡ 0
