-- A record of a capture as a list of bytes.
use Rattle.std.specs.Prelude.{◌≡◌, ◌≤◌, ◌<◌, ◌+◌, ◌^◌, ℕ, List, ◌++◌, length, take, drop, Bool, ◌⊎◌, nat_lt, nat_le}
use Rattle.std.specs.Prelude.{if◌then◌else◌, Option, Some, None, option_map, Result, Ok, Err}
use Rattle.td_pcap.specs.declared.record.Rec.{Rec}
use Rattle.td_pcap.specs.declared.record.TheConstants.{REC_HEAD, KEPT_MAX}
use Rattle.td_pcap.specs.declared.fault.CapFault.{CapFault}
use Rattle.td_pcap.specs.declared.fault.CapFault.TheVariants.{Cut, Magic, Version, Link, Big}
use Rattle.td_pcap.specs.Orders.{ordered_bytes, ordered_number}

-- a record without where its bytes lie in memory
pub record Captured : Type 0 where
  pub sec : ℕ
  pub frac : ℕ
  pub orig : ℕ
  pub bytes : List ℕ

-- a record without where its bytes lie in memory
abbrev pub captured : Rec → Captured
captured r = record { sec = r.sec; frac = r.frac; orig = r.orig; bytes = r.bytes.now }

-- what has a spelling
pub record IsCaptured (r : Captured) : Type 0 where
  pub sec : r.sec < 2 ^ 32
  pub frac : r.frac < 2 ^ 32
  pub orig : r.orig < 2 ^ 32
  pub kept : length r.bytes ≤ KEPT_MAX

-- The one spelling of a record: seconds, fraction, how many bytes are kept, how many there were, those kept.
unfoldable pub record_bytes : Bool → Captured → List ℕ
record_bytes little r =
    ordered_bytes little 4 r.sec ++ (ordered_bytes little 4 r.frac
    ++ (ordered_bytes little 4 (length r.bytes) ++ (ordered_bytes little 4 r.orig ++ r.bytes)))

-- behind a place x goes on with the record r, which ends at `end`
pub record StandsAt (little : Bool) (r : Captured) (at end : ℕ) (x : List ℕ) : Type 0 where
  pub fits : IsCaptured r
  pub bytes : drop at x ≡ record_bytes little r ++ drop end x
  pub ends : end ≡ at + length (record_bytes little r)
  pub inside : end ≤ length x

-- how many bytes are said to be kept of the record at a place
abbrev pub kept_said : Bool → ℕ → List ℕ → ℕ
kept_said little at x = ordered_number little (at + 8) 4 x

-- the record's numbers are cut, or its bytes
abbrev pub IsCutAt : Bool → ℕ → List ℕ → Type 0
IsCutAt little at x =
    (length x < at + REC_HEAD) ⊎ ((at + REC_HEAD ≤ length x) × (kept_said little at x ≤ KEPT_MAX) × (length x < at + REC_HEAD + kept_said little at x))

-- the fault is that of the record at a place
abbrev pub IsRecordFault : Bool → ℕ → CapFault → List ℕ → Type 0
IsRecordFault little place (Cut at) x = (at ≡ place) × (place < length x) × IsCutAt little place x
IsRecordFault little place (Big at said) x = (at ≡ place) × (place + REC_HEAD ≤ length x) × (said ≡ kept_said little place x) × (KEPT_MAX < said)
IsRecordFault little place (Magic said) x = ⊥
IsRecordFault little place (Version major minor) x = ⊥
IsRecordFault little place (Link said) x = ⊥

-- what stands at the places of a record of so many bytes
unfoldable pub captured_at : Bool → ℕ → ℕ → List ℕ → Captured
captured_at little at kept x = record {
  sec = ordered_number little at 4 x;
  frac = ordered_number little (at + 4) 4 x;
  orig = ordered_number little (at + 12) 4 x;
  bytes = take kept (drop (at + REC_HEAD) x);
}

-- the record at a place and the place behind it, nothing at the end, or the first fault
unfoldable pub next_record : Bool → ℕ → List ℕ → Result (Option (Captured × ℕ)) CapFault
next_record little at x =
    let kept = kept_said little at x in
    if nat_le (length x) at then Ok None
    else if nat_lt (length x) (at + REC_HEAD) then Err (Cut at)
    else if nat_lt KEPT_MAX kept then Err (Big at kept)
    else if nat_lt (length x) (at + REC_HEAD + kept) then Err (Cut at)
    else Ok (Some (captured_at little at kept x, at + REC_HEAD + kept))

-- what a reader of the code answers, without where it lies in memory
abbrev pub step_view : Option (Rec × ℕ) → Option (Captured × ℕ)
step_view step = option_map (λ s. (captured s.0, s.1)) step
