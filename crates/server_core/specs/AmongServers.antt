-- What a server sends draws nothing from another server either: no datagram goes round between servers (RFC 4380, sections
-- 5.3.1 and 5.3.2).
use Rattle.std.specs.Prelude.{◌≡◌, ℕ, true, false, List}
use Rattle.std.specs.List.{AllByRecursion}
use Rattle.td_base.specs.Bytes.{IsBytes}
use Rattle.td_base.specs.Ip4.{IsIp4, same_ip}
use Rattle.td_base.specs.Ep.{IsEp}
use Rattle.td_base.specs.declared.endpoint.Ep.{Ep}
use Rattle.td_base.specs.declared.side.Side.{Side}
use Rattle.teredo_node.specs.Step.{Send}
use Rattle.server_core.specs.declared.server.ServerSettings.{ServerSettings}
use Rattle.server_core.specs.Bounds.{IsSilent}
use Rattle.server_core.specs.Conditions.{is_own}
use Rattle.server_core.specs.Server.{server_row}

-- whatever a server answers to a datagram, where that comes from one of its addresses to a server with another primary one
abbrev pub EachEndsAmongServers : Type 0
EachEndsAmongServers = (s other : ServerSettings) (side at : Side) (from own : Ep) (x : List ℕ) → IsIp4 s.primary → IsEp from → IsBytes x
    → is_own s own.ip ≡ true → same_ip s.primary other.primary ≡ false
    → AllByRecursion (λ (send : Send). IsSilent (server_row other at own send.bytes)) (server_row s side from x).sends
