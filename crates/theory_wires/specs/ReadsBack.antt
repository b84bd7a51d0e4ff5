-- What a capture of a history holds: it is read as one head and a record for each entry of the wire, in order; and a record as the
-- datagram that it is of (RFC 791, section 3.1, and RFC 768). And how long it is at most.
use Rattle.std.specs.Prelude.{◌≡◌, ◌≤◌, ◌+◌, ◌*◌, ℕ, List, [], ◌∷◌, length, None, Ok}
use Rattle.td_base.specs.declared.datagram.TheConstants.{DATAGRAM_MAX}
use Rattle.td_ipv4.specs.declared.numbers.TheConstants.{HEAD_MIN, UDP_HEAD}
use Rattle.td_ipv4.specs.Checksums.{made_udp4}
use Rattle.td_ipv4.specs.Tests.{udp4_at}
use Rattle.td_pcap.specs.declared.head.TheConstants.{HEAD}
use Rattle.td_pcap.specs.declared.record.TheConstants.{REC_HEAD}
use Rattle.td_pcap.specs.Records.{Captured}
use Rattle.td_pcap.specs.Captures.{CaptureBytes}
use Rattle.td_audit.specs.Verdicts.{datagram_in}
use Rattle.topology.specs.Rules.{IsTopology}
use Rattle.history.specs.Full.{Item, udp, six, Full, wire}
use Rattle.legal.specs.Lab.{Lab}
use Rattle.legal.specs.Legal.{Grown}
use Rattle.std.specs.List.{concat}
use Rattle.player.specs.Account.{all_lines}
use Rattle.player.specs.Accounts.{capture_account}
use Rattle.player.specs.Capture.{capture_head, packet_of, capture_records}

-- the bytes that are written of a history
abbrev pub capture_text : Lab → List Full → List ℕ
capture_text lab H = concat (all_lines capture_account lab H)

-- a datagram's bytes are read as it, with both checksums right; those of a packet of the IPv6 side as none
abbrev pub ReadsBackAs : Item → List ℕ → Type 0
ReadsBackAs (udp src dst bytes) x = udp4_at x ≡ Ok (made_udp4 src dst bytes)
ReadsBackAs (six relay bytes) x = datagram_in x ≡ None

-- the record is that of the entry, whole
pub record IsRecordOf (x : Item) (r : Captured) : Type 0 where
  pub bytes : r.bytes ≡ packet_of x
  pub whole : r.orig ≡ length r.bytes
  pub reads : ReadsBackAs x r.bytes

-- one for each entry, in order
abbrev pub AreRecordsOf : List Item → List Captured → Type 0
AreRecordsOf [] [] = Unit {0}
AreRecordsOf (x ∷ xs) (r ∷ rs) = IsRecordOf x r × AreRecordsOf xs rs
AreRecordsOf _ _ = ⊥

-- the most bytes of an entry's record: its head, both headers of a datagram, and the longest one
abbrev pub longest_record : ℕ
longest_record = REC_HEAD + HEAD_MIN + UDP_HEAD + DATAGRAM_MAX

-- *read back*: the capture of a history: one record for each entry, in order, each whole and read as what the entry is.
pub record IsReadBack (lab : Lab) (H : List Full) : Type 0 where
  pub capture : CaptureBytes capture_head (capture_records H) (capture_text lab H)
  pub records : AreRecordsOf (wire H) (capture_records H)
  pub size : length (capture_text lab H) ≤ HEAD + longest_record * length (wire H)

-- so is each wire
abbrev pub EachWireReadsBack : Type 0
EachWireReadsBack = (lab : Lab) (H : List Full) → IsTopology lab.topology → Grown lab H → IsReadBack lab H
