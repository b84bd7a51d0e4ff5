-- What is said of the records of a capture.
use Rattle.std.specs.Prelude.{ℕ, List, [], ◌∷◌, ◌++◌, Option, Some, None, Result, Ok, Err, if◌then◌else◌}
use Rattle.td_ipv4.specs.Datagrams.{Udp4Fields}
use Rattle.td_ipv4.specs.Tests.{udp4_at}
use Rattle.td_ipv4.specs.declared.fault.Ip4Fault.{Ip4Fault}
use Rattle.td_pcap.specs.Records.{Captured}
use Rattle.server_core.specs.declared.server.ServerSettings.{ServerSettings}
use Rattle.td_audit.specs.Datagrams.{Datagram, datagram, is_audited}
use Rattle.td_audit.specs.Verdicts.{datagram_in}
use Rattle.td_explain.specs.declared.said.Said.{Said}
use Rattle.td_explain.specs.declared.said.Said.TheVariants.{Skipped, Held}
use Rattle.td_explain.specs.declared.question.Question.{Question}
use Rattle.td_explain.specs.declared.answered.Answered.{Answered}
use Rattle.td_explain.specs.Licensing.{answered_after}
use Rattle.td_explain.specs.Questions.{question_of}

-- a datagram as one to the server, and as one from it, behind some places
abbrev pub asked_in : ServerSettings → Datagram → Option Question
asked_in s d = if is_audited s d.dst then Some (question_of s d) else None

-- what is said of a datagram from the server, after the records before it
abbrev pub answered_in : ServerSettings → List (Option Datagram) → Datagram → Option Answered
answered_in s before d = if is_audited s d.src then Some (answered_after s before d) else None

-- what is said of a record, after those before it
abbrev pub said_by : ServerSettings → List (Option Datagram) → Result Udp4Fields Ip4Fault → Said
said_by s before (Ok u) = Held (asked_in s (datagram u.src u.dst u.body)) (answered_in s before (datagram u.src u.dst u.body))
said_by s before (Err fault) = Skipped fault

-- what is said of a packet behind some places
unfoldable pub said_of : ServerSettings → List (Option Datagram) → List ℕ → Said
said_of s before packet = said_by s before (udp4_at packet)

-- what is said of records behind some places
abbrev pub said_behind : ServerSettings → List (Option Datagram) → List Captured → List Said
said_behind s before [] = []
said_behind s before (r ∷ rs) = said_of s before r.bytes ∷ said_behind s (before ++ datagram_in r.bytes ∷ []) rs

-- what is said of each record of a capture
abbrev pub all_said : ServerSettings → List Captured → List Said
all_said s rs = said_behind s [] rs
