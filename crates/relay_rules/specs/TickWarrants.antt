-- What was due where a relay's tick has a fate (RFC 4380, section 5.2.6). No other fate is a tick's.
use Rattle.std.specs.Prelude.{◌≡◌, ℕ, Bool, true, false, Option, Some}
use Rattle.teredo_node.specs.declared.fate.Fate.{Fate}
use Rattle.teredo_node.specs.declared.fate.Fate.TheVariants as fate
use Rattle.peer_list.specs.Judged.{is_spent}
use Rattle.peer_list.specs.Waiting.{Listing}
use Rattle.relay_rules.specs.Standing.{RelaySettings}
use Rattle.relay_rules.specs.Ticks.{relay_tick_step}

-- this peer is due, after four tries in the last 300 s or fewer
pub record IsRelayPeersTurn (spent : Bool) (n : ℕ) (due : Option Listing) : Type 0 where
  pub listing : Listing
  pub is_due : due ≡ Some listing
  pub spent_is : is_spent n listing.peer ≡ spent

-- what has to hold where a tick has this fate
abbrev pub RelayTickedOnlyIf : Fate → ℕ → Option Listing → Type 0
RelayTickedOnlyIf fate.GiveUp n due = IsRelayPeersTurn true n due
RelayTickedOnlyIf fate.Bubbles n due = IsRelayPeersTurn false n due
RelayTickedOnlyIf fate.Idle n due = Unit {0}
RelayTickedOnlyIf _ n due = ⊥

-- a tick has a fate only where this is due
abbrev pub RelayTickIsWarranted : Type 0
RelayTickIsWarranted = (s : RelaySettings) (n : ℕ) (due : Option Listing) → RelayTickedOnlyIf (relay_tick_step s n due).fate n due
