-- How far a capture was explained.
use Rattle.std.specs.Prelude.{◌≡◌, ◌≤◌, ◌-◌, ℕ, List, [], ◌∷◌, ◌++◌, length, Option, Some, None}
use Rattle.server_core.specs.declared.server.ServerSettings.{ServerSettings}
use Rattle.td_pcap.specs.declared.head.Head.{Head}
use Rattle.td_pcap.specs.declared.fault.CapFault.{CapFault}
use Rattle.td_pcap.specs.Heads.{IsHeadFault}
use Rattle.td_pcap.specs.Records.{Captured}
use Rattle.td_pcap.specs.Captures.{IsCapture, capture_bytes, CaptureBytes, IsFaultBehindRecords}
use Rattle.td_audit.specs.declared.fault.AuditFault.{AuditFault}
use Rattle.td_audit.specs.declared.fault.AuditFault.TheVariants.{Capture, NoMemory}
use Rattle.td_audit.specs.Verdicts.{places}
use Rattle.td_audit.specs.Walk.{Walks}
use Rattle.td_explain.specs.declared.explainer.Explainer.{Explainer}
use Rattle.td_explain.specs.declared.said.Said.{Said}
use Rattle.td_explain.specs.Said.{said_of}
use Rattle.td_explain.specs.Telling.{Tells}

-- x begins with a head and these records
pub record BeginsWithRecords (rs : List Captured) (x : List ℕ) : Type 0 where
  pub head : Head
  pub rest : List ℕ
  pub fits : IsCapture head rs
  pub bytes : x ≡ capture_bytes head rs ++ rest

-- The fault is the first one of x as a capture, and these are all records before it: none, where it is the head's.
pub data StopsBehind (fault : CapFault) (rs : List Captured) (x : List ℕ) : Type 0 where
  at_head : IsHeadFault fault x → rs ≡ [] → StopsBehind fault rs x
  at_record : (f : IsFaultBehindRecords fault x) → rs ≡ f.before → StopsBehind fault rs x

-- no more records are explained: a fault stands behind these, or memory ran out behind these
abbrev pub IsStop : AuditFault → List Captured → List ℕ → Type 0
IsStop (Capture fault) rs x = StopsBehind fault rs x
IsStop NoMemory rs x = BeginsWithRecords rs x

-- the place that it has come to is within the bytes
abbrev pub IsWithinBytes : Explainer → Type 0
IsWithinBytes e = e.at ≤ length e.bytes.now

-- how many of the bytes are left
abbrev pub bytes_left : Explainer → ℕ
bytes_left e = length e.bytes.now - e.at

-- of the capture x these records were explained
pub record Explains (s : ServerSettings) (e : Explainer) (x : List ℕ) (rs : List Captured) : Type 0 where
  pub bytes_are : e.bytes.now ≡ x
  pub walks : Walks e.head e.at x rs
  pub tells : Tells s e.teller rs

-- one more record was explained, so, or there is none
abbrev pub ExplainsNext : ServerSettings → Explainer → List ℕ → List Captured → Option Said → Type 0
ExplainsNext s e x rs None = Explains s e x rs × CaptureBytes e.head rs x
ExplainsNext s e x rs (Some said) = (r : Captured) × Explains s e x (rs ++ r ∷ []) × (said ≡ said_of s (places rs) r.bytes)
