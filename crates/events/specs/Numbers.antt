-- What an event of a scenario may ask for at most.
use Rattle.std.specs.Prelude.{◌≡◌}
use Rattle.events.specs.declared.event.TheConstants.{EVENTS_MAX, ADVANCE_MAX_MS, ENTRY_NUMBER_MAX, SEQUENCE_MAX, BODY_MAX, FAULT_MAX}

-- the limits of events are those of `docs/SCENARIOS.md`
pub record EventNumbers : Type 0 where
  -- the most events of a scenario
  pub events_most : EVENTS_MAX ≡ 50000
  -- the longest step of time, in milliseconds
  pub advance_most : ADVANCE_MAX_MS ≡ 1000000000
  -- the largest numbers of an entry and of a sequence, 16 bits each
  pub entry_most : ENTRY_NUMBER_MAX ≡ 65535
  pub sequence_most : SEQUENCE_MAX ≡ 65535
  -- the most bytes of a body: a packet without its header
  pub body_most : BODY_MAX ≡ 1240
  -- the greatest number of a send that fails: of eight, from 0
  pub fault_most : FAULT_MAX ≡ 7
