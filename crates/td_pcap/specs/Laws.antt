-- Captures as lists of bytes: they read back, and in one way.
use Rattle.std.specs.Prelude.{◌≡◌, ◌+◌, ℕ, List, ◌++◌, length, Bool, Some, Ok}
use Rattle.td_base.specs.Bytes.{IsBytes}
use Rattle.td_pcap.specs.declared.head.Head.{Head}
use Rattle.td_pcap.specs.declared.head.TheConstants.{HEAD}
use Rattle.td_pcap.specs.declared.record.TheConstants.{REC_HEAD}
use Rattle.td_pcap.specs.declared.fault.CapFault.{CapFault}
use Rattle.td_pcap.specs.Heads.{IsHead, head_bytes, file_head}
use Rattle.td_pcap.specs.Records.{Captured, IsCaptured, record_bytes, next_record}
use Rattle.td_pcap.specs.Captures.{CaptureBytes, IsCaptureFault}

-- a head's bytes are read as it, whatever follows
abbrev pub HeadReadsBack : Type 0
HeadReadsBack = (h : Head) (rest : List ℕ) → IsHead h → file_head (head_bytes h ++ rest) ≡ Ok h

-- a record's bytes are read as it, whatever stands in front and follows
abbrev pub RecordReadsBack : Type 0
RecordReadsBack = (little : Bool) (r : Captured) (front rest : List ℕ) → IsCaptured r
    → next_record little (length front) (front ++ (record_bytes little r ++ rest)) ≡ Ok (Some (r, length front + length (record_bytes little r)))

-- bytes are one capture at most
pub record AreOneCapture (h g : Head) (rs qs : List Captured) : Type 0 where
  pub head : h ≡ g
  pub records : rs ≡ qs

-- bytes are one capture at most
abbrev pub CaptureIsOne : Type 0
CaptureIsOne = (h g : Head) (rs qs : List Captured) (x : List ℕ) → CaptureBytes h rs x → CaptureBytes g qs x → AreOneCapture h g rs qs

-- a capture has no fault
abbrev pub CaptureHasNoFault : Type 0
CaptureHasNoFault = (h : Head) (rs : List Captured) (x : List ℕ) (e : CapFault) → CaptureBytes h rs x → IsCaptureFault e x → ⊥

-- how many bytes a head and a record have, and that they are bytes
pub record CaptureIsBytes : Type 0 where
  pub head_long : (h : Head) → length (head_bytes h) ≡ HEAD
  pub record_long : (little : Bool) (r : Captured) → length (record_bytes little r) ≡ REC_HEAD + length r.bytes
  pub head : (h : Head) → IsBytes (head_bytes h)
  pub record_is : (little : Bool) (r : Captured) → IsBytes r.bytes → IsBytes (record_bytes little r)
