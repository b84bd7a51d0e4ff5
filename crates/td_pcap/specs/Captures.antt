-- A whole capture: a head, and records to the end.
use Rattle.std.specs.Prelude.{◌≡◌, ℕ, List, [], ◌∷◌, ◌++◌, length, Bool}
use Rattle.std.specs.List.{AllByRecursion}
use Rattle.td_pcap.specs.declared.head.Head.{Head}
use Rattle.td_pcap.specs.declared.fault.CapFault.{CapFault}
use Rattle.td_pcap.specs.Heads.{IsHead, head_bytes, IsHeadFault}
use Rattle.td_pcap.specs.Records.{Captured, IsCaptured, record_bytes, IsRecordFault}

-- records, the first one first
abbrev pub records_bytes : Bool → List Captured → List ℕ
records_bytes little [] = []
records_bytes little (r ∷ rs) = record_bytes little r ++ records_bytes little rs

-- the bytes of a capture: its head and then its records
abbrev pub capture_bytes : Head → List Captured → List ℕ
capture_bytes h rs = head_bytes h ++ records_bytes h.little rs

-- what has a spelling
pub record IsCapture (h : Head) (rs : List Captured) : Type 0 where
  pub head : IsHead h
  pub records : AllByRecursion IsCaptured rs

-- x is a capture: this head, and these records to the end
pub record CaptureBytes (h : Head) (rs : List Captured) (x : List ℕ) : Type 0 where
  pub fits : IsCapture h rs
  pub bytes : x ≡ capture_bytes h rs

-- behind a head and some records stands a fault
pub record IsFaultBehindRecords (e : CapFault) (x : List ℕ) : Type 0 where
  pub head : Head
  pub before : List Captured
  pub rest : List ℕ
  pub fits : IsCapture head before
  pub bytes : x ≡ capture_bytes head before ++ rest
  pub fault : IsRecordFault head.little (length (capture_bytes head before)) e x

-- the fault is the first one of x as a capture
pub data IsCaptureFault (e : CapFault) (x : List ℕ) : Type 0 where
  of_head : IsHeadFault e x → IsCaptureFault e x
  of_record : IsFaultBehindRecords e x → IsCaptureFault e x
