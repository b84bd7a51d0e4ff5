-- How far a capture was read.
use Rattle.std.specs.Prelude.{◌≡◌, ◌≤◌, ℕ, List, ◌++◌, length, drop}
use Rattle.server_core.specs.declared.server.ServerSettings.{ServerSettings}
use Rattle.td_pcap.specs.declared.head.Head.{Head}
use Rattle.td_pcap.specs.Records.{Captured}
use Rattle.td_pcap.specs.Captures.{IsCapture, capture_bytes}
use Rattle.td_audit.specs.declared.judge.Judge.{Judge}
use Rattle.td_audit.specs.Judging.{Stands}
use Rattle.td_audit.specs.Verdicts.{places}

-- before a place stand a head and these records
pub record Walks (head : Head) (at : ℕ) (x : List ℕ) (records : List Captured) : Type 0 where
  pub fits : IsCapture head records
  pub bytes : x ≡ capture_bytes head records ++ drop at x
  pub place : at ≡ length (capture_bytes head records)
  pub inside : at ≤ length x
  pub few : length records ≤ at

-- and some records that stand there were judged
pub record Judges (s : ServerSettings) (head : Head) (judge : Judge) (at : ℕ) (x : List ℕ) : Type 0 where
  pub records : List Captured
  pub walks : Walks head at x records
  pub stands : Stands s judge (places records)
