-- The numbers of the generated scenario, all of them our choice.
use Rattle.std.specs.Prelude.{◌≡◌}
use Rattle.generator.specs.declared.nodes.TheConstants.{FIRST_NAT, FIRST_CLIENT, THE_RELAY, FIRST_NATIVE, MAPPING_IDLE_MS, INSIDE_PORT}
use Rattle.generator.specs.declared.event.TheConstants.{ADVANCE_END_MS}
use Rattle.generator.specs.declared.words.TheConstants.{EVENTS_STREAM}

-- the numbers of the generated scenario are those of this project
pub record GeneratedNumbers : Type 0 where
  -- behind two servers four NATs, eight clients and a relay
  pub first_nat : FIRST_NAT ≡ 2
  pub first_client : FIRST_CLIENT ≡ 6
  pub relay : THE_RELAY ≡ 14
  pub first_native : FIRST_NATIVE ≡ 15
  -- a minute, in milliseconds
  pub idle : MAPPING_IDLE_MS ≡ 60000
  pub inside : INSIDE_PORT ≡ 4000
  -- less than five seconds pass at an event, in milliseconds
  pub advance_end : ADVANCE_END_MS ≡ 5000
  -- the greatest number of 64 bits: no node has it
  pub stream : EVENTS_STREAM ≡ 18446744073709551615
