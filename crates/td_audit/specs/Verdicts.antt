-- What an audit says of a capture.
use Rattle.std.specs.Prelude.{◌≡◌, ℕ, List, length, map, count_by, Option, Some, None, Result, Ok, Err}
use Rattle.td_base.specs.declared.ipv4.Ip4.{Ip4}
use Rattle.td_base.specs.declared.reach.Policy.TheVariants.{Strict}
use Rattle.server_core.specs.declared.server.ServerSettings.{ServerSettings}
use Rattle.td_ipv4.specs.Datagrams.{Udp4Fields}
use Rattle.td_ipv4.specs.Tests.{udp4_at}
use Rattle.td_ipv4.specs.declared.fault.Ip4Fault.{Ip4Fault}
use Rattle.td_pcap.specs.declared.head.Head.{Head}
use Rattle.td_pcap.specs.Records.{Captured}
use Rattle.td_pcap.specs.Captures.{CaptureBytes, IsCaptureFault}
use Rattle.td_audit.specs.declared.verdict.Verdict.{Verdict}
use Rattle.td_audit.specs.declared.verdict.Verdict.TheVariants.{Clean, Unlicensed}
use Rattle.td_audit.specs.declared.fault.AuditFault.{AuditFault}
use Rattle.td_audit.specs.declared.fault.AuditFault.TheVariants.{Capture, NoMemory}
use Rattle.td_audit.specs.Datagrams.{Datagram, datagram, is_to_audited, is_from_audited, is_skipped}
use Rattle.td_audit.specs.Licences.{AreLicensed, IsFirstUnlicensed}

-- a server on the Internet
abbrev pub audited : Ip4 → Ip4 → ServerSettings
audited primary secondary = record { primary = primary; secondary = secondary; policy = Strict }

-- the datagram that was read, if one was
abbrev pub datagram_read : Result Udp4Fields Ip4Fault → Option Datagram
datagram_read (Ok u) = Some (datagram u.src u.dst u.body)
datagram_read (Err fault) = None

-- *what a place holds*: the UDP datagram over IPv4 that the record's bytes are, or none: then the record is skipped.
-- what a packet holds: a UDP datagram over IPv4, or none
unfoldable pub datagram_in : List ℕ → Option Datagram
datagram_in packet = datagram_read (udp4_at packet)

-- *place*: a record's number in a capture, from 0.
-- what each record holds
abbrev pub places : List Captured → List (Option Datagram)
places rs = map (λ r. datagram_in r.bytes) rs

-- The verdict on what the places hold: each is licensed, and how many there are, how many with a datagram to the server,
-- from it, one from the server to the server counting as both, and how many others; or the least place that isn't licensed.
abbrev pub IsVerdict : ServerSettings → List (Option Datagram) → Verdict → Type 0
IsVerdict s held (Clean packets to from skipped) = AreLicensed s held × (packets ≡ length held)
    × (to ≡ count_by (is_to_audited s) held) × (from ≡ count_by (is_from_audited s) held)
    × (skipped ≡ count_by (is_skipped s) held)
IsVerdict s held (Unlicensed place) = IsFirstUnlicensed s held place

-- x is a capture, and this the verdict on it
pub record IsJudged (s : ServerSettings) (verdict : Verdict) (x : List ℕ) : Type 0 where
  pub head : Head
  pub records : List Captured
  pub capture : CaptureBytes head records x
  pub verdict_is : IsVerdict s (places records) verdict

-- x is no capture, by its first fault
abbrev pub IsAuditFault : AuditFault → List ℕ → Type 0
IsAuditFault (Capture fault) x = IsCaptureFault fault x
IsAuditFault NoMemory x = Unit {0}
