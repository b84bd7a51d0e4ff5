-- What a relay sends over IPv4: two kinds of datagrams (RFC 4380, sections 5.4.1 and 5.4.2).
use Rattle.std.specs.Prelude.{◌≡◌, ℕ, List, ◌∷◌, Option, Some}
use Rattle.std.specs.List.{AllByRecursion}
use Rattle.td_base.specs.declared.ipv6.Ip6.{Ip6}
use Rattle.teredo_addr.specs.Teredo.{embedded}
use Rattle.teredo_node.specs.Step.{Send}
use Rattle.teredo_node.specs.Sends.{send}
use Rattle.teredo_node.specs.Journal.{Entry}
use Rattle.relay_rules.specs.Standing.{RelaySettings}
use Rattle.relay_rules.specs.Transmission.{bubble_to}
use Rattle.relay_rules.specs.Journals.{IsRelayJournal}
use Rattle.relay_rules.specs.Laws.{IsForeignTo}

-- a datagram of an entry about this peer: a bubble through the peer's server, or a packet from outside Teredo to the peer,
-- with nothing in front, to the endpoint that its address embeds
pub data IsRelaySending (s : RelaySettings) (peer : Option Ip6) (x : Send) : Type 0 where
  bubbles : (p : Ip6) → peer ≡ Some p → x ≡ bubble_to s p → IsRelaySending s peer x
  carries : (p : Ip6) (bytes : List ℕ) → peer ≡ Some p → IsForeignTo peer bytes → x ≡ send (embedded p) bytes → IsRelaySending s peer x

-- so is each datagram of each entry
abbrev pub EachRelaySend : Type 0
EachRelaySend = (s : RelaySettings) (j : List Entry) (e : Entry) → IsRelayJournal s (e ∷ j) → AllByRecursion (IsRelaySending s e.peer) e.step.sends
