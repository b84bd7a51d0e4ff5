-- What the code answers, against what the server sends.
use Rattle.std.specs.Prelude.{◌≡◌, ◌≤◌, ℕ, List, length, take, true, Option, Some, None}
use Rattle.server_core.specs.declared.server.ServerSettings.{ServerSettings}
use Rattle.td_audit.specs.declared.reply.Reply.{Reply}
use Rattle.td_audit.specs.Datagrams.{Datagram, datagram, is_audited}

-- the answer, where out holds its bytes, is what the server sends
abbrev pub Replies : ServerSettings → Option Reply → List ℕ → Option Datagram → Type 0
Replies s None out sent = sent ≡ None
Replies s (Some r) out sent = (sent ≡ Some (datagram r.from r.to (take r.len out))) × (r.len ≤ length out) × (is_audited s r.from ≡ true)
