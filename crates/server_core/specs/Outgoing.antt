-- What a server sends: two kinds of datagrams (RFC 4380, sections 5.3.1 and 5.3.2).
use Rattle.std.specs.Prelude.{◌≡◌, ℕ, true, false, List, drop, Some, None, Ok}
use Rattle.std.specs.List.{AllByRecursion}
use Rattle.td_base.specs.Bytes.{IsBytes}
use Rattle.td_base.specs.Ip4.{IsIp4}
use Rattle.td_base.specs.Ep.{IsEp}
use Rattle.td_base.specs.declared.endpoint.Ep.{Ep}
use Rattle.td_base.specs.declared.side.Side.{Side}
use Rattle.td_base.specs.declared.side.Side.TheVariants.{Primary}
use Rattle.teredo_addr.specs.Teredo.{is_teredo, embedded}
use Rattle.indications.specs.Leads.{nonce_of}
use Rattle.bubble.specs.Payloads.{Value, payload_at}
use Rattle.bubble.specs.Reads.{value_in}
use Rattle.teredo_node.specs.Step.{Send}
use Rattle.teredo_node.specs.MadeInputs.{IsMadeSend}
use Rattle.server_core.specs.declared.server.ServerSettings.{ServerSettings}
use Rattle.server_core.specs.Conditions.{is_own}
use Rattle.server_core.specs.Rules.{server_seen}
use Rattle.server_core.specs.Outputs.{advert_bytes, forwarded}
use Rattle.server_core.specs.Server.{answering_side, server_row}
use Rattle.server_core.specs.RuleWarrants.{IsAnswered, GoesToOwn, GoesToOther}

-- a datagram from one side of the server to an endpoint
abbrev pub send_from : Side → Ep → List ℕ → Send
send_from side to bytes = record { side = side; to = to; bytes = bytes }

-- a datagram of the server in answer to a payload x from `from`
pub data IsOutgoing (s : ServerSettings) (side : Side) (from : Ep) (x : List ℕ) (v : Value) (send : Send) : Type 0 where
  -- an advertisement to whoever asked
  adverts : IsAnswered (server_seen s from v)
      → send ≡ send_from (answering_side side v.packet.src) from (advert_bytes s from (nonce_of v.lead) v.packet.src)
      → IsOutgoing s side from x v send
  -- the packet, to the endpoint that its destination embeds: for a client of this server with its origin in front
  goes_to_own : GoesToOwn (server_seen s from v)
      → send ≡ send_from Primary (embedded v.packet.dst) (forwarded (Some from) (drop v.lead.at x))
      → IsOutgoing s side from x v send
  goes_to_other : GoesToOther (server_seen s from v)
      → send ≡ send_from Primary (embedded v.packet.dst) (forwarded None (drop v.lead.at x))
      → IsOutgoing s side from x v send

-- so is each that it sends
abbrev pub EachIsOutgoing : Type 0
EachIsOutgoing = (s : ServerSettings) (side : Side) (from : Ep) (x : List ℕ) (v : Value) → payload_at x ≡ Ok v
    → AllByRecursion (IsOutgoing s side from x v) (server_row s side from x).sends

-- a packet with a Teredo source came from the endpoint that the source embeds, which isn't the server's
pub record IsFromClient (s : ServerSettings) (from : Ep) (send : Send) : Type 0 where
  pub embeds : is_teredo (value_in send.bytes).packet.src ≡ true → from ≡ embedded (value_in send.bytes).packet.src
  pub elsewhere : is_own s from.ip ≡ false

-- a packet with a Teredo source goes on only from the endpoint that the source embeds
abbrev pub EachIsFromClient : Type 0
EachIsFromClient = (s : ServerSettings) (side : Side) (from : Ep) (x : List ℕ) → IsIp4 s.primary → IsEp from
    → IsBytes x → AllByRecursion (IsFromClient s from) (server_row s side from x).sends

-- what is sent are bytes, and not too many
abbrev pub EachOutputIsMade : Type 0
EachOutputIsMade = (s : ServerSettings) (side : Side) (from : Ep) (x : List ℕ) → IsIp4 s.primary → IsEp from
    → IsBytes x → AllByRecursion IsMadeSend (server_row s side from x).sends
