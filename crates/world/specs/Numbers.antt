-- How much a wire may hold.
use Rattle.std.specs.Prelude.{◌≡◌, ◌+◌}
use Rattle.events.specs.declared.event.TheConstants.{ENTRY_NUMBER_MAX}
use Rattle.world.specs.declared.wire.TheConstants.{ENTRIES_MAX}

-- a wire holds as many entries as the pages say, each of which an event can name
pub record WireNumbers : Type 0 where
  -- the most entries: our choice
  pub entries_most : ENTRIES_MAX ≡ 65536
  -- so that an event can name each of them
  pub each_has_a_number : ENTRIES_MAX ≡ ENTRY_NUMBER_MAX + 1
