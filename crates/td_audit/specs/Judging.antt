-- What the judge of a capture knows after some records, for the contracts of private functions.
use Rattle.std.specs.Prelude.{◌≡◌, ◌+◌, ◌<◌, ◌^◌, List, length, map, count_by, Bool, true, false, Option, MatchOption}
use Rattle.server_core.specs.declared.server.ServerSettings.{ServerSettings}
use Rattle.td_audit.specs.declared.licences.Licences.{Licences}
use Rattle.td_audit.specs.declared.counts.Counts.{Counts}
use Rattle.td_audit.specs.declared.judge.Judge.{Judge}
use Rattle.td_audit.specs.Datagrams.{Datagram, same_datagram, is_same, times, is_audited, is_to_audited, is_from_audited, is_skipped}
use Rattle.td_audit.specs.Licences.{output, AreLicensed, IsFirstUnlicensed}
use Rattle.td_audit.specs.Keys.{HasKey}
use Rattle.td_audit.specs.Left.{licences_left, one_if}

-- a datagram from the server had a licence, which was used up, or it had none
abbrev pub IsCovered : ServerSettings → Licences → Licences → Datagram → Bool → Type 0
IsCovered s old new d true = (e : Datagram) → HasKey e → is_audited s e.src ≡ true → licences_left new e + one_if (same_datagram e d) ≡ licences_left old e
IsCovered s old new d false = (is_audited s d.src ≡ true) × (licences_left old d ≡ 0)

-- one more of each datagram from the server can be counted
abbrev pub HasGrantRoom : ServerSettings → Licences → Type 0
HasGrantRoom s l = (e : Datagram) → HasKey e → is_audited s e.src ≡ true → licences_left l e + 1 < 2 ^ 64

-- what a place holds is licensed once more
abbrev pub Licenses : Licences → Licences → Option Datagram → Type 0
Licenses old new held = (e : Datagram) → HasKey e → licences_left new e ≡ licences_left old e + one_if (is_same e held)

-- the counts of some places
abbrev pub counts_of : ServerSettings → List (Option Datagram) → Counts
counts_of s places = record {
  packets = length places;
  to = count_by (is_to_audited s) places;
  from = count_by (is_from_audited s) places;
  skipped = count_by (is_skipped s) places;
}

-- all places up to now are licensed; what is licences_left licensed, and how many there were
pub record Runs (s : ServerSettings) (l : Licences) (c : Counts) (places : List (Option Datagram)) : Type 0 where
  pub each : AreLicensed s places
  pub left_is : (e : Datagram) → HasKey e → is_audited s e.src ≡ true → licences_left l e + times e places ≡ times e (map (output s) places)
  pub counts_are : c ≡ counts_of s places

-- the judge has seen these places
pub record Stands (s : ServerSettings) (j : Judge) (places : List (Option Datagram)) : Type 0 where
  pub settings_are : j.settings ≡ s
  pub state : MatchOption j.unlicensed (Runs s j.licences j.counts places) (IsFirstUnlicensed s places)
