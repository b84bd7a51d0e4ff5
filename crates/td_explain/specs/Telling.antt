-- What is known after some records of a capture, for the contracts of private functions.
use Rattle.std.specs.Prelude.{◌≡◌, ◌≤◌, ◌<◌, ◌^◌, ℕ, Bool, true, false, List, length, take, count_by, is_some, slice_set, Option, Some, None}
use Rattle.std.specs.List.{AllByRecursion}
use Rattle.server_core.specs.declared.server.ServerSettings.{ServerSettings}
use Rattle.td_pcap.specs.Records.{Captured}
use Rattle.td_audit.specs.Datagrams.{Datagram, datagram, times, is_audited}
use Rattle.td_audit.specs.Keys.{HasKey}
use Rattle.td_audit.specs.Verdicts.{places}
use Rattle.td_explain.specs.declared.said.Said.{Said}
use Rattle.td_explain.specs.declared.tally.Counts.{Counts}
use Rattle.td_explain.specs.declared.tally.Tallier.{Tallier}
use Rattle.td_explain.specs.declared.ledger.Ledger.{Ledger}
use Rattle.td_explain.specs.declared.likes.Likes.{Likes}
use Rattle.td_explain.specs.declared.past.Past.{Past}
use Rattle.td_explain.specs.declared.known.Known.{Known}
use Rattle.td_explain.specs.declared.known.Known.TheVariants.{Clean, Whole}
use Rattle.td_explain.specs.declared.teller.Teller.{Teller}
use Rattle.td_explain.specs.Outputs.{own_places, latest_like}
use Rattle.td_explain.specs.Said.{all_said}
use Rattle.td_explain.specs.Tallies.{asked_said, answered_said, is_skip, is_dropped, licensers, waiting, unlicensed}
use Rattle.server_core.specs.Bounds.{endpoint}
use Rattle.server_core.specs.declared.reply.Answer.{Answer}
use Rattle.server_core.specs.declared.reply.Answer.TheVariants as answers
use Rattle.td_explain.specs.Known.{came_at, drawn_at, like_at, IsLatest}
use Rattle.td_explain.specs.Waits.{KeepsWaits}

-- the counts that grow by a record
abbrev pub counts_said : List Said → Counts
counts_said xs = record {
  packets = length xs;
  asked = count_by (λ x. is_some (asked_said x)) xs;
  answered = count_by (λ x. is_some (answered_said x)) xs;
  skipped = count_by is_skip xs;
  dropped = count_by (λ x. is_dropped (asked_said x)) xs;
  unlicensed = unlicensed xs;
}

-- each of some places is less than a number
abbrev pub AreBelow : ℕ → List ℕ → Type 0
AreBelow most places = AllByRecursion (λ place. place < most) places

-- a place waits no more
abbrev pub without_place : Option ℕ → List Bool → List Bool
without_place None waits = waits
without_place (Some place) waits = slice_set waits place false

-- the counts are those of what was said
pub record Tallies (t : Tallier) (xs : List Said) : Type 0 where
  pub counts_are : t.counts ≡ counts_said xs
  pub waiting_are : t.waiting.items ≡ waiting xs
  pub earlier : AreBelow (length xs) (licensers xs)

-- ---- what is known, where the datagrams of some records came, and those of some drew: of the same ones, or of one less

-- the ledger has what came, and what was drawn
pub record KeepsLedger (s : ServerSettings) (l : Ledger) (came held : List (Option Datagram)) : Type 0 where
  pub counted : (e : Datagram) → HasKey e → is_audited s e.src ≡ true → came_at l e ≡ times e came
  pub drawn : (e : Datagram) → HasKey e → drawn_at l e ≡ own_places s e held

-- the latest outputs are kept
abbrev pub KeepsLatest : ServerSettings → Likes → List (Option Datagram) → Type 0
KeepsLatest s l held = (e : Datagram) → HasKey e → length e.body < 2 ^ 64 → IsLatest s (like_at l e) (latest_like s e held)

-- what is kept tells of each datagram so far what is asked of it later
pub record KeepsPast (s : ServerSettings) (p : Past) (came held : List (Option Datagram)) : Type 0 where
  pub ledger : KeepsLedger s p.ledger came held
  pub latest : KeepsLatest s p.likes held

-- what is kept agrees with the records so far, whether or not all was licensed
abbrev pub KeepsKnown : ServerSettings → Known → List (Option Datagram) → List (Option Datagram) → Type 0
KeepsKnown s (Clean waits) came held = KeepsWaits s waits came held
KeepsKnown s (Whole past) came held = KeepsPast s past came held

-- ---- what an answer draws, where out holds its bytes

-- the datagram that an answer sends, if it sends one
abbrev pub drawn_datagram : ServerSettings → Answer → List ℕ → Option Datagram
drawn_datagram s (answers.Drop fate) out = None
drawn_datagram s (answers.Send fate side to len) out = Some (datagram (endpoint s side) to (take len out))
drawn_datagram s (answers.Six span) out = None

-- what the answer sends lies in the buffer
abbrev pub StandsWithin : Answer → List ℕ → Type 0
StandsWithin (answers.Drop fate) out = Unit {0}
StandsWithin (answers.Send fate side to len) out = len ≤ length out
StandsWithin (answers.Six span) out = Unit {0}

-- these records were told
pub record Tells (s : ServerSettings) (t : Teller) (rs : List Captured) : Type 0 where
  pub settings_are : t.settings ≡ s
  pub tallies : Tallies t.tallier (all_said s rs)
  pub known : KeepsKnown s t.known (places rs) (places rs)
