-- The payload that bytes spell, and where it ends.
use Rattle.std.specs.Prelude.{◌≡◌, ◌+◌, ℕ, List, length}
use Rattle.ipv6_packet.specs.declared.header.TheConstants.{HEADER}
use Rattle.bubble.specs.Payloads.{Value}
use Rattle.bubble.specs.Reads.{value_in}

-- x spells this payload
pub record IsPayloadOf (x : List ℕ) (v : Value) : Type 0 where
  pub value : value_in x ≡ v
  pub inside : v.lead.at + HEADER + length v.packet.body ≡ length x
