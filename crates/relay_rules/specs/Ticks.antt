-- What a relay does at a tick: the peer that is due first gets a bubble, or its packets are dropped (RFC 4380, section 5.2.6).
use Rattle.std.specs.Prelude.{ℕ, Bool, true, false, [], ◌∷◌, length, Option, Some, None, option_map}
use Rattle.td_base.specs.declared.ipv6.Ip6.{Ip6}
use Rattle.teredo_node.specs.declared.fate.Fate.TheVariants as fate
use Rattle.teredo_node.specs.Step.{Step, just}
use Rattle.teredo_node.specs.Sends.{sending}
use Rattle.peer_list.specs.Judged.{is_spent}
use Rattle.peer_list.specs.Waiting.{Listing}
use Rattle.relay_rules.specs.Standing.{RelaySettings}
use Rattle.relay_rules.specs.Transmission.{bubble_to}

-- whom a tick is about
abbrev pub relay_peer_of_due : Option Listing → Option Ip6
relay_peer_of_due due = option_map (λ l. l.who) due

-- a spent peer's packets are dropped; any other gets a bubble
abbrev pub relay_tries_peer : (spent : Bool) → RelaySettings → Listing → Step
relay_tries_peer true s l = record (just fate.GiveUp) { gone = length l.peer.waiting }
relay_tries_peer false s l = sending fate.Bubbles (bubble_to s l.who ∷ [])

-- what a relay does at n, where this peer is due
abbrev pub relay_tick_step : RelaySettings → ℕ → Option Listing → Step
relay_tick_step s n None = just fate.Idle
relay_tick_step s n (Some l) = relay_tries_peer (is_spent n l.peer) s l
