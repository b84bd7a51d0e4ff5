-- What the server does with a datagram (RFC 4380, section 5.3).
use Rattle.std.specs.Prelude.{ℕ, List, [], ◌∷◌, drop, if◌then◌else◌, Some, None, Result, Ok, Err}
use Rattle.td_base.specs.declared.ipv6.Ip6.{Ip6}
use Rattle.td_base.specs.declared.endpoint.Ep.{Ep}
use Rattle.td_base.specs.declared.side.Side.{Side}
use Rattle.td_base.specs.declared.side.Side.TheVariants.{Primary}
use Rattle.td_base.specs.Side.{other_side}
use Rattle.indications.specs.Leads.{nonce_of}
use Rattle.bubble.specs.Payloads.{Value, payload_at}
use Rattle.bubble.specs.declared.fault.PayloadFault.{PayloadFault}
use Rattle.teredo_addr.specs.Teredo.{has_cone, embedded}
use Rattle.teredo_node.specs.declared.fate.Fate.{Fate}
use Rattle.teredo_node.specs.declared.fate.Fate.TheVariants as fate
use Rattle.teredo_node.specs.Step.{Step, just, rest_of}
use Rattle.server_core.specs.declared.server.ServerSettings.{ServerSettings}
use Rattle.server_core.specs.declared.rules.Rule.{Rule}
use Rattle.server_core.specs.declared.rules.Rule.TheVariants.{Dropped, Advert, ForwardOrigin, Forward, Six}
use Rattle.server_core.specs.Rules.{rule_of}
use Rattle.server_core.specs.Outputs.{advert_bytes, forwarded}

-- a step that sends one datagram
abbrev pub sends_one : Fate → Side → Ep → List ℕ → Step
sends_one fate side to bytes = record (just fate) { sends = record { side = side; to = to; bytes = bytes } ∷ [] }

-- an advertisement leaves from the other address where the solicitation's source has the cone bit
abbrev pub answering_side : Side → Ip6 → Side
answering_side side client = if has_cone client then other_side side else side

-- a rule carried out
abbrev pub step_of : ServerSettings → Side → Ep → List ℕ → Value → Rule → Step
step_of s side from x v (Dropped fate) = just fate
step_of s side from x v Advert = sends_one fate.Advert (answering_side side v.packet.src) from (advert_bytes s from (nonce_of v.lead) v.packet.src)
step_of s side from x v ForwardOrigin = sends_one fate.ForwardOrigin Primary (embedded v.packet.dst) (forwarded (Some from) (drop v.lead.at x))
step_of s side from x v Forward = sends_one fate.Forward Primary (embedded v.packet.dst) (forwarded None (drop v.lead.at x))
step_of s side from x v Six = record (just fate.Six) { six = Some (rest_of v.lead.at x) }

-- the step of a payload that was read, or of bytes that are none
abbrev pub by_payload : ServerSettings → Side → Ep → List ℕ → Result Value PayloadFault → Step
by_payload s side from x (Ok v) = step_of s side from x v (rule_of s from v)
by_payload s side from x (Err fault) = just fate.Malformed

-- *server's row*: the step of the first line of the server's table whose condition holds.
-- what the server does with a datagram that came from `from` to the address `side`
unfoldable pub server_row : ServerSettings → Side → Ep → List ℕ → Step
server_row s side from x = by_payload s side from x (payload_at x)
