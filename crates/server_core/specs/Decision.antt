-- What the server does with a datagram, before anything is written.
use Rattle.std.specs.Prelude.{◌≡◌, ◌≤◌, ◌+◌, ℕ, List, length, true, Some, None}
use Rattle.td_base.specs.declared.endpoint.Ep.{Ep}
use Rattle.td_base.specs.declared.side.Side.{Side}
use Rattle.td_base.specs.declared.side.Side.TheVariants.{Primary}
use Rattle.ipv6_packet.specs.declared.header.TheConstants.{HEADER, PACKET_MAX}
use Rattle.icmp6.specs.declared.numbers.TheConstants.{SOLICIT_LEN}
use Rattle.indications.specs.Blocks.{nonce_len}
use Rattle.teredo_node.specs.Fate.{is_drop}
use Rattle.teredo_node.specs.declared.fate.Fate.TheVariants as fate
use Rattle.teredo_node.specs.Step.{Step, just}
use Rattle.server_core.specs.declared.server.ServerSettings.{ServerSettings}
use Rattle.server_core.specs.declared.decision.Decision.{Decision}
use Rattle.server_core.specs.declared.decision.Decision.TheVariants.{Dropped, Advert, ForwardOrigin, Forward, Six}
use Rattle.server_core.specs.Outputs.{advert_bytes, forwarded}
use Rattle.server_core.specs.Rules.{IsPeer}
use Rattle.server_core.specs.Server.{sends_one, answering_side}

-- a decision carried out
abbrev pub step_by : ServerSettings → Side → Ep → Decision → Step
step_by s side from (Dropped fate) = just fate
step_by s side from (Advert nonce client) = sends_one fate.Advert (answering_side side client) from (advert_bytes s from nonce client)
step_by s side from (ForwardOrigin to packet) = sends_one fate.ForwardOrigin Primary to (forwarded (Some from) packet.now)
step_by s side from (Forward to packet) = sends_one fate.Forward Primary to (forwarded None packet.now)
step_by s side from (Six span) = record (just fate.Six) { six = Some span }

-- what is known where it was decided so for x
abbrev pub IsWarranted : ServerSettings → Ep → List ℕ → Decision → Type 0
IsWarranted s from x (Dropped fate) = is_drop fate ≡ true
IsWarranted s from x (Advert nonce client) = IsPeer s from × (nonce_len nonce + HEADER + SOLICIT_LEN ≤ length x)
IsWarranted s from x (ForwardOrigin to packet) = IsPeer s to × (length packet.now ≤ PACKET_MAX) × (length packet.now ≤ length x)
IsWarranted s from x (Forward to packet) = IsPeer s to × (length packet.now ≤ PACKET_MAX) × (length packet.now ≤ length x)
IsWarranted s from x (Six span) = span.at + span.len ≤ length x
