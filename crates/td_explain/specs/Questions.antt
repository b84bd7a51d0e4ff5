-- What the server's table makes of a datagram to it.
use Rattle.std.specs.Prelude.{ℕ, List, [], ◌∷◌, length, Option, Some, None, Result, Ok, Err}
use Rattle.td_base.specs.declared.span.Span.{Span}
use Rattle.icmp6.specs.declared.fault.IcmpFault.{IcmpFault}
use Rattle.icmp6.specs.Message.{Message, message_at}
use Rattle.bubble.specs.Payloads.{Value, payload_at}
use Rattle.bubble.specs.declared.fault.PayloadFault.{PayloadFault}
use Rattle.teredo_node.specs.declared.fate.Fate.{Fate}
use Rattle.teredo_node.specs.declared.fate.Fate.TheVariants as fate
use Rattle.teredo_node.specs.Step.{Step, Send}
use Rattle.server_core.specs.declared.server.ServerSettings.{ServerSettings}
use Rattle.server_core.specs.Bounds.{endpoint}
use Rattle.server_core.specs.Server.{server_row}
use Rattle.td_audit.specs.Datagrams.{Datagram}
use Rattle.td_audit.specs.Licences.{side_with}
use Rattle.td_explain.specs.declared.question.Question.{Question}
use Rattle.td_explain.specs.declared.question.Reason.{Reason}
use Rattle.td_explain.specs.declared.question.Reason.TheVariants as reasons
use Rattle.td_explain.specs.declared.question.Drawn.{Drawn}
use Rattle.td_explain.specs.declared.question.Drawn.TheVariants as drawings

-- the first fault of what is no payload
abbrev pub payload_reason : Result Value PayloadFault → Option Reason
payload_reason (Ok v) = None
payload_reason (Err fault) = Some (reasons.Payload fault)

-- the fault of a message, if it has one, as the reason of a drop
abbrev pub fault_reason : Result Message IcmpFault → Option Reason
fault_reason (Ok m) = None
fault_reason (Err fault) = Some (reasons.Message fault)

-- the first fault of a payload's message
abbrev pub message_reason : Result Value PayloadFault → Option Reason
message_reason (Ok v) = fault_reason (message_at v.packet.src v.packet.dst v.packet.hop v.packet.body)
message_reason (Err fault) = None

-- why x has its fate, where the fate leaves that open
abbrev pub reason_of : Fate → List ℕ → Option Reason
reason_of fate.Malformed x = payload_reason (payload_at x)
reason_of fate.Icmp x = message_reason (payload_at x)
reason_of _ x = None

-- what a step draws: one output at most
abbrev pub drawn_of : ServerSettings → List Send → Option Span → Drawn
drawn_of s (x ∷ xs) six = drawings.Datagram (endpoint s x.side) x.to (length x.bytes)
drawn_of s [] (Some span) = drawings.Six span.len
drawn_of s [] None = drawings.Nothing

-- a datagram to the server with what the server's table makes of it
abbrev pub question_by : ServerSettings → Datagram → Step → Question
question_by s d step = record {
  side = side_with s d.dst;
  src = d.src;
  fate = step.fate;
  reason = reason_of step.fate d.body;
  drawn = drawn_of s step.sends step.six;
}

-- a datagram to the server
unfoldable pub question_of : ServerSettings → Datagram → Question
question_of s d = question_by s d (server_row s (side_with s d.dst) d.src d.body)
