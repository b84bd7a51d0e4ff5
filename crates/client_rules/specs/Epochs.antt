-- What every journal of a client says: of its address, of the packets that wait, and of where it trusts (RFC 4380, sections
-- 5.2.1, 5.2.3 and 5.2.4).
use Rattle.std.specs.Prelude.{◌≡◌, ◌≢◌, ℕ, true, false, List, Contains, Option, Some, is_some, IfSome}
use Rattle.std.specs.List.{AllByRecursion}
use Rattle.td_base.specs.declared.ipv6.Ip6.{Ip6}
use Rattle.td_base.specs.declared.endpoint.Ep.{Ep}
use Rattle.teredo_addr.specs.Teredo.{is_teredo, embedded}
use Rattle.ipv6_packet.specs.Reads.{is_packet, is_big, fields_in}
use Rattle.bubble.specs.Bubbles.{is_bubble}
use Rattle.teredo_node.specs.declared.fate.Fate.TheVariants as fate
use Rattle.teredo_node.specs.Journal.{given, Entry, Journal, with_entry, epoch}
use Rattle.peer_list.specs.Peers.{known}
use Rattle.qualify.specs.declared.settings.Settings.{Settings}
use Rattle.qualify.specs.Qualification.{qualification}
use Rattle.qualify.specs.Solicitations.{is_qualified}
use Rattle.client_rules.specs.Bearings.{mentions}
use Rattle.client_rules.specs.Journals.{IsJournal}

-- THE ADDRESS

-- a client has an address exactly while it is qualified
abbrev pub QualifiedHasAddress : Type 0
QualifiedHasAddress = (s : Settings) (j : Journal) → IsJournal s j → is_some (qualification s j).address ≡ is_qualified (qualification s j).phase

-- and stays so
abbrev pub QualifiedStays : Type 0
QualifiedStays = (s : Settings) (j : Journal) (e : Entry) → IsJournal s (with_entry j e)
    → is_qualified (qualification s j).phase ≡ true → is_qualified (qualification s (with_entry j e)).phase ≡ true

-- PACKETS THAT WAIT

-- x is a packet from this address to that one, no bubble, and not too long
pub record IsOwnTo (own to : Option Ip6) (x : List ℕ) : Type 0 where
  pub well_formed : is_packet x ≡ true
  pub short : is_big (fields_in x) ≡ false
  pub no_bubble : is_bubble (fields_in x) ≡ false
  pub source : own ≡ Some (fields_in x).src
  pub destination : to ≡ Some (fields_in x).dst

-- an entry has such a packet, to its peer
pub record QueuesOwn (own : Option Ip6) (e : Entry) : Type 0 where
  pub there : is_some e.packet ≡ true
  pub packet : IfSome e.packet (λ x. IsOwnTo own e.peer x)

-- each packet that was queued since the last change of address is from the address that the client has now
abbrev pub QueuedIsOwn : Type 0
QueuedIsOwn = (s : Settings) (j : Journal) → IsJournal s j
    → AllByRecursion (λ (e : Entry). e.step.fate ≡ fate.Queued → QueuesOwn (qualification s j).address e) (epoch j.entries)

-- without an address none was queued
abbrev pub NoneQueued : Type 0
NoneQueued = (s : Settings) (j : Journal) → IsJournal s j → is_qualified (qualification s j).phase ≡ false
    → AllByRecursion (λ (e : Entry). e.step.fate ≢ fate.Queued) (epoch j.entries)

-- what waits for p is from that address to p
abbrev pub WaitingIsOwn : Type 0
WaitingIsOwn = (s : Settings) (j : Journal) (n : ℕ) (p : Ip6) → IsJournal s j
    → AllByRecursion (IsOwnTo (qualification s j).address (Some p)) (known (mentions j.entries) n p).waiting

-- an entry for x, which the host handed in for p and which was to wait
pub record WasQueued (p : Option Ip6) (x : List ℕ) (e : Entry) : Type 0 where
  pub given : e.input ≡ given x
  pub peer : e.peer ≡ p
  pub queued : e.step.fate ≡ fate.Queued

-- one of these is such an entry
abbrev pub WasHandedIn : List Entry → Option Ip6 → List ℕ → Type 0
WasHandedIn es p x = (e : Entry) × Contains es e × WasQueued p x e

-- what waits for p was handed in for p since the last change of address
abbrev pub WaitingWasHandedIn : Type 0
WaitingWasHandedIn = (s : Settings) (j : Journal) (n : ℕ) (p : Ip6) → IsJournal s j
    → AllByRecursion (WasHandedIn (epoch j.entries) (Some p)) (known (mentions j.entries) n p).waiting

-- TRUST

-- another client is trusted where its address says
abbrev pub TrustedIsEmbedded : Type 0
TrustedIsEmbedded = (s : Settings) (j : Journal) (n : ℕ) (p : Ip6) (at : Ep) → IsJournal s j → is_teredo p ≡ true
    → (known (mentions j.entries) n p).trusted ≡ Some at → at ≡ embedded p
