-- What holds of every datagram that a server is given (RFC 4380, section 5.3).
use Rattle.std.specs.Prelude.{◌≡◌, ◌≤◌, ◌<◌, ◌+◌, ◌-◌, ◌^◌, ℕ, true, false, List, [], ◌∷◌, ◌++◌, length, drop}
use Rattle.std.specs.Prelude.{replicate, Contains, Option, Some, None, IfSome, is_some, Ok}
use Rattle.std.specs.List.{AllByRecursion}
use Rattle.td_base.specs.Bytes.{IsBytes}
use Rattle.td_base.specs.Ip4.{IsIp4}
use Rattle.td_base.specs.Ip6.{IsIp6}
use Rattle.td_base.specs.Ep.{IsEp}
use Rattle.td_base.specs.declared.ipv4.Ip4.{Ip4}
use Rattle.td_base.specs.declared.ipv6.Ip6.{Ip6}
use Rattle.td_base.specs.declared.endpoint.Ep.{Ep}
use Rattle.td_base.specs.declared.side.Side.{Side}
use Rattle.teredo_node.specs.declared.fate.Fate.{Fate}
use Rattle.teredo_node.specs.declared.fate.Fate.TheVariants as fate
use Rattle.teredo_node.specs.Step.{Send}
use Rattle.ipv6_packet.specs.declared.header.TheConstants.{HEADER, PACKET_MAX}
use Rattle.ipv6_packet.specs.Reads.{is_big}
use Rattle.icmp6.specs.Blocks.{options_at}
use Rattle.icmp6.specs.declared.opt.Opt.TheVariants.{Prefix, Mtu}
use Rattle.teredo_addr.specs.Teredo.{is_teredo, server_in}
use Rattle.indications.specs.Leads.{nonce_of, origin_in}
use Rattle.indications.specs.Blocks.{indications_len}
use Rattle.bubble.specs.Payloads.{Value, payload_at, value_written}
use Rattle.bubble.specs.Reads.{is_payload, value_in}
use Rattle.bubble.specs.Laws.{ReadsPayload, CarriesMessage}
use Rattle.server_core.specs.declared.server.ServerSettings.{ServerSettings}
use Rattle.server_core.specs.declared.advertisement.TheConstants.{ADVERTISEMENT}
use Rattle.server_core.specs.Outputs.{advert_options, advertisement, advert_packet, advert_bytes, forwarded}
use Rattle.server_core.specs.Server.{server_row}
use Rattle.server_core.specs.Bounds.{outputs, outcomes}

-- the fates of the table, in its order
abbrev pub row_fates : List Fate
row_fates =
    fate.Malformed ∷ fate.Keyed ∷ fate.Big ∷ fate.Kind ∷ fate.Icmp ∷ fate.Source ∷ fate.Loop ∷ fate.OwnEcho ∷ fate.Advert ∷ fate.Mismatch
    ∷ fate.NotOurs ∷ fate.Embedded ∷ fate.ForwardOrigin ∷ fate.Forward ∷ fate.Six ∷ fate.Dest ∷ []

-- a datagram has one of these fates
abbrev pub FateOfRow : Type 0
FateOfRow = (s : ServerSettings) (side : Side) (from : Ep) (x : List ℕ) → Contains row_fates (server_row s side from x).fate

-- at most one datagram is sent, or one packet goes on
abbrev pub OneOutput : Type 0
OneOutput = (s : ServerSettings) (side : Side) (from : Ep) (x : List ℕ) → outputs (server_row s side from x) ≤ 1

-- something is sent, or a packet goes on to the IPv6 side, or the datagram is dropped: one of the three, and once
abbrev pub OneOutcome : Type 0
OneOutcome = (s : ServerSettings) (side : Side) (from : Ep) (x : List ℕ) → outcomes (server_row s side from x) ≡ 1

-- WHAT IS SENT READS BACK

-- 2001:0:P::, for a server at P
abbrev pub served_prefix : Ip4 → Ip6
served_prefix primary = record { 0 = 0x20 ∷ 1 ∷ 0 ∷ 0 ∷ primary.0 ++ replicate 8 0 }

-- the options of an advertisement are this prefix and the MTU, and the prefix tells the server
pub record AreServerOptions (primary : Ip4) (options : List ℕ) : Type 0 where
  pub read : options_at 0 options ≡ Prefix 64 0x40 (2 ^ 32 - 1) (2 ^ 32 - 1) (served_prefix primary) ∷ Mtu PACKET_MAX ∷ []
  pub teredo : is_teredo (served_prefix primary) ≡ true
  pub server : server_in (served_prefix primary) ≡ primary

-- what an advertisement may be made of
pub record MayBeAnswered (s : ServerSettings) (from : Ep) (nonce : Option ℕ) (client : Ip6) : Type 0 where
  pub primary : IsIp4 s.primary
  pub origin : IsEp from
  pub nonce_fits : IfSome nonce (λ n. n < 2 ^ 64)
  pub address : IsIp6 client

-- x is read as an advertisement to `client` at `from`: this nonce, this origin, and a Router Advertisement
pub record ReadsAdvert (s : ServerSettings) (from : Ep) (nonce : Option ℕ) (client : Ip6) (x : List ℕ) : Type 0 where
  pub payload : ReadsPayload (value_written nonce (Some from) (advert_packet s client)) x
  pub same_nonce : nonce_of (value_in x).lead ≡ nonce
  pub same_origin : origin_in (value_in x).lead ≡ Some from
  pub carries : CarriesMessage (advertisement s.primary) (value_in x).packet
  pub options : AreServerOptions s.primary (advert_options s.primary)
  pub long : length x ≡ indications_len nonce (Some from) + HEADER + ADVERTISEMENT
  pub bytes : IsBytes x

-- an advertisement reads back: the nonce, the origin, the message and its options
abbrev pub AdvertReadsBack : Type 0
AdvertReadsBack = (s : ServerSettings) (from : Ep) (nonce : Option ℕ) (client : Ip6)
    → MayBeAnswered s from nonce client → ReadsAdvert s from nonce client (advert_bytes s from nonce client)

-- a packet that goes on is read as it was, behind the origin that is given
abbrev pub ForwardedReadsBack : Type 0
ForwardedReadsBack = (x : List ℕ) (v : Value) (origin : Option Ep) → IsBytes x → payload_at x ≡ Ok v → is_big v.packet ≡ false → IfSome origin IsEp
    → ReadsPayload (value_written None origin v.packet) (forwarded origin (drop v.lead.at x))

-- a payload, whose origin is the endpoint that it goes to where it has an authentication
pub record TellsWhereTo (send : Send) : Type 0 where
  pub is_one : is_payload send.bytes ≡ true
  pub origin : is_some (value_in send.bytes).lead.auth ≡ true → origin_in (value_in send.bytes).lead ≡ Some send.to

-- each datagram that a server sends is
abbrev pub EachTellsWhereTo : Type 0
EachTellsWhereTo = (s : ServerSettings) (side : Side) (from : Ep) (x : List ℕ) → IsIp4 s.primary → IsEp from
    → IsBytes x → AllByRecursion TellsWhereTo (server_row s side from x).sends
