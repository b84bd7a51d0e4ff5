-- The finer words on two hosts.
use Rattle.std.specs.Prelude.{ℕ}

-- the finer words on two hosts
pub data Finer : Type 0 where
  off : Finer
  away : Finer
  self : Finer
  one_nat : Finer
  full : Finer
  moved : Finer  -- a sender's datagrams leave from elsewhere than its address says, or are refused
  unheard : Finer  -- nothing comes in to a client whose server or whose peer would have to
  stale : Finer
  barred : Finer
  known : Finer
  either : Finer  -- the order of deliveries decides
  comes : Finer  -- in a complete schedule, by no number
  within : (most : ℕ) → Finer
