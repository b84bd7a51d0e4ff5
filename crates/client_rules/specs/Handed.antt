-- What a client hands to its host (RFC 4380, section 5.2.3).
use Rattle.std.specs.Prelude.{◌≡◌, ℕ, true, false, List, [], Contains, Option, Some, is_some}
use Rattle.std.specs.List.{AllByRecursion}
use Rattle.td_base.specs.declared.ipv6.Ip6.{Ip6}
use Rattle.td_base.specs.declared.endpoint.Ep.{Ep}
use Rattle.td_base.specs.declared.span.Span.{Span}
use Rattle.teredo_addr.specs.Teredo.{is_teredo, embedded}
use Rattle.ipv6_packet.specs.Reads.{is_big}
use Rattle.bubble.specs.Bubbles.{is_bubble}
use Rattle.bubble.specs.Reads.{is_payload, value_in}
use Rattle.teredo_node.specs.declared.fate.Fate.{Fate}
use Rattle.teredo_node.specs.declared.fate.Fate.TheVariants as fate
use Rattle.teredo_node.specs.Step.{rest_of}
use Rattle.teredo_node.specs.Journal.{Input, arrived, given, from_six, ticked, Entry, Journal, with_entry, epoch}
use Rattle.qualify.specs.declared.settings.Settings.{Settings}
use Rattle.qualify.specs.Qualification.{qualification}
use Rattle.client_rules.specs.Bearings.{source_of}
use Rattle.client_rules.specs.Reception.{is_from_server}
use Rattle.client_rules.specs.Journals.{IsJournal}

-- the packet of a datagram x for this address, no bubble, which came from a peer itself: one of another client from where
-- its source says
pub record IsHanded (s : Settings) (own : Option Ip6) (from : Ep) (x : List ℕ) (span : Option Span) : Type 0 where
  pub payload : is_payload x ≡ true
  pub packet : span ≡ Some (rest_of (value_in x).lead.at x)
  pub no_bubble : is_bubble (value_in x).packet ≡ false
  pub short : is_big (value_in x).packet ≡ false
  pub mine : own ≡ Some (value_in x).packet.dst
  pub direct : is_from_server s from ≡ false
  pub there : is_teredo (value_in x).packet.src ≡ true → from ≡ embedded (value_in x).packet.src

-- of an input; nothing but a datagram is handed over
abbrev pub HandsOver : Settings → Option Ip6 → Input → Option Span → Type 0
HandsOver s own (arrived from x) span = IsHanded s own from x span
HandsOver s own (given x) span = ⊥
HandsOver s own (from_six x) span = ⊥
HandsOver s own ticked span = ⊥

-- the rules that hand over
pub data HandingRule (f : Fate) : Type 0 where
  rule1 : f ≡ fate.Rule1 → HandingRule f
  rule3 : f ≡ fate.Rule3 → HandingRule f

-- so is each that is handed over, by one of these rules
abbrev pub EachHanded : Type 0
EachHanded = (s : Settings) (j : Journal) (e : Entry) → IsJournal s (with_entry j e) → is_some e.step.handed ≡ true
    → HandsOver s (qualification s j).address e.input e.step.handed × HandingRule e.step.fate

-- WHAT IS HANDED OVER LATE

-- the fates by which a packet is held
pub data HoldingRule (f : Fate) : Type 0 where
  held_test : f ≡ fate.HeldTest → HoldingRule f
  held : f ≡ fate.Held → HoldingRule f

-- an entry for x, which came from there as the packet of a datagram of p, and was held
pub record WasHeld (from : Ep) (p : Option Ip6) (x : List ℕ) (e : Entry) : Type 0 where
  pub rule : HoldingRule e.step.fate
  pub came : source_of e.input ≡ Some from
  pub packet : e.packet ≡ Some x
  pub peer : e.peer ≡ p

-- one of these is such an entry
abbrev pub WasHeldIn : List Entry → Ep → Option Ip6 → List ℕ → Type 0
WasHeldIn es from p x = (e : Entry) × Contains es e × WasHeld from p x e

-- an entry hands over nothing late, or by rule 2, and then what was held since the last change of address, of the same peer,
-- when it came from where the answer to the test came from
pub data HandsLate (es : List Entry) (e : Entry) : Type 0 where
  nothing : e.step.late ≡ [] → HandsLate es e
  rule2 : (from : Ep) → source_of e.input ≡ Some from → e.step.fate ≡ fate.Rule2 → AllByRecursion (WasHeldIn es from e.peer) e.step.late → HandsLate es e

-- what is handed over late was held, when it came from where the answer to the test came from
abbrev pub EachLate : Type 0
EachLate = (s : Settings) (j : Journal) (e : Entry) → IsJournal s (with_entry j e) → HandsLate (epoch j.entries) e
