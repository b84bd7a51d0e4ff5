-- What a client does at a tick: the first thing that is due (RFC 4380, sections 5.2.1, 5.2.5 and 5.2.6).
use Rattle.std.specs.Prelude.{ℕ, Bool, true, false, nat_lt, nat_le, if◌then◌else◌, length, Option, Some, None, option_map}
use Rattle.td_base.specs.declared.ipv6.Ip6.{Ip6}
use Rattle.teredo_addr.specs.Teredo.{is_teredo}
use Rattle.teredo_node.specs.declared.fate.Fate.{Fate}
use Rattle.teredo_node.specs.declared.fate.Fate.TheVariants as fate
use Rattle.teredo_node.specs.Step.{Step, just}
use Rattle.teredo_node.specs.Sends.{sending}
use Rattle.teredo_node.specs.Journal.{Words}
use Rattle.peer_list.specs.Judged.{is_spent, due_of}
use Rattle.peer_list.specs.Waiting.{Listing}
use Rattle.qualify.specs.declared.settings.Settings.{Settings}
use Rattle.qualify.specs.Qualification.{Qualification}
use Rattle.qualify.specs.Solicitations.{own_address, is_due, due_step}
use Rattle.client_rules.specs.Tries.{try_sends, try_words}

-- the first due thing: the phase or the refresh, then the peer that is due first
pub data Due : Type 0 where
  asks : Due
  tries : Listing → Due
  nothing : Due

-- it is the peer's, where that is due already
abbrev pub peer_due : ℕ → Option Listing → Due
peer_due n None = nothing
peer_due n (Some l) = if nat_le (due_of l.peer) n then tries l else nothing

-- at n, where this peer is due first
unfoldable pub due_at : ℕ → Qualification → Option Listing → Due
due_at n q first = if is_due n q.due then asks else peer_due n first

-- whom a tick is about
abbrev pub peer_of_due : Due → Option Ip6
peer_of_due asks = None
peer_of_due (tries l) = Some l.who
peer_of_due nothing = None

-- the fate of a try: bubbles to a Teredo address, a test of another one
abbrev pub try_fate : (teredo : Bool) → Fate
try_fate true = fate.Bubbles
try_fate false = fate.Test

-- a spent peer's packets are dropped; any other gets a try
abbrev pub tries_peer : (spent : Bool) → Settings → Qualification → Listing → Words → Step
tries_peer true s q l w = record (just fate.GiveUp) { gone = length l.peer.waiting }
tries_peer false s q l w = record (sending (try_fate (is_teredo l.who)) (try_sends s (own_address q) l.who w)) { drawn = try_words l.who }

-- what a client does at n, where this is due
abbrev pub tick : Settings → ℕ → Qualification → Words → Due → Step
tick s n q w asks = due_step s q w
tick s n q w (tries l) = tries_peer (is_spent n l.peer) s q l w
tick s n q w nothing = just fate.Idle

-- WHEN A TICK IS DUE

-- the sooner of two moments that may be missing
abbrev pub sooner : Option ℕ → Option ℕ → Option ℕ
sooner None b = b
sooner (Some a) None = Some a
sooner (Some a) (Some b) = if nat_lt b a then Some b else Some a

-- when something is due next: the qualification's moment, or that of the peer that is due first
unfoldable pub next_due : Qualification → Option Listing → Option ℕ
next_due q first = sooner q.due (option_map (λ (l : Listing). due_of l.peer) first)
