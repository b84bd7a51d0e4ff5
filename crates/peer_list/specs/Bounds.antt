-- How much is kept of a peer.
use Rattle.std.specs.Prelude.{◌≤◌, ◌<◌, ℕ, List, length}
use Rattle.std.specs.List.{AllByRecursion}
use Rattle.td_base.specs.declared.millis.TheConstants.{CLOCK_END_MS}
use Rattle.ipv6_packet.specs.declared.header.TheConstants.{PACKET_MAX}
use Rattle.peer_list.specs.declared.held.Held.{Held}
use Rattle.peer_list.specs.declared.limits.TheConstants.{WAITING_MAX, HELD_MAX}

-- each is a moment that a clock gives
abbrev pub AreEarly : List ℕ → Type 0
AreEarly ms = AllByRecursion (λ m. m < CLOCK_END_MS) ms

-- at most eight packets, each short enough for every link
pub record CanWait (packets : List (List ℕ)) : Type 0 where
  pub few : length packets ≤ WAITING_MAX
  pub short : AllByRecursion (λ (x : List ℕ). length x ≤ PACKET_MAX) packets

-- at most four, the same
pub record CanHold (held : List Held) : Type 0 where
  pub few : length held ≤ HELD_MAX
  pub short : AllByRecursion (λ (h : Held). length h.packet ≤ PACKET_MAX) held
