-- Which bytes are a message, apart from how they are read: RFC 4443, RFC 4861, section 6.1.
use Rattle.std.specs.Prelude.{◌≡◌, ◌≢◌, ◌<◌, ◌^◌, ℕ, List, IsTrue}
use Rattle.td_base.specs.Reach.{is_link_local}
use Rattle.td_base.specs.declared.ipv6.Ip6.{Ip6}
use Rattle.icmp6.specs.declared.numbers.TheConstants.{ROUTER_HOP, ECHO_REQUEST, ECHO_REPLY, ROUTER_SOLICIT, ROUTER_ADVERT}
use Rattle.icmp6.specs.Checksum.{checksum_of}
use Rattle.icmp6.specs.Options.{AreOptions}
use Rattle.icmp6.specs.Message.{Message, echo_request, echo_reply, router_solicit, router_advert, other}
use Rattle.icmp6.specs.Layout.{layout}

-- the numbers of a message fit their fields
abbrev pub MessageFits : Message → Type 0
MessageFits (echo_request id seq body) = (id < 2 ^ 16) × (seq < 2 ^ 16)
MessageFits (echo_reply id seq body) = (id < 2 ^ 16) × (seq < 2 ^ 16)
MessageFits (router_solicit options) = Unit {0}
MessageFits (router_advert hop flags life reach retrans options) = (hop < 2 ^ 8) × (flags < 2 ^ 8) × (life < 2 ^ 16) × (reach < 2 ^ 32) × (retrans < 2 ^ 32)
MessageFits (other kind code rest) = (kind < 2 ^ 8) × (code < 2 ^ 8)

-- a router's message comes with hop limit 255 and has whole options
pub record IsOfRouter (hop : ℕ) (options : List ℕ) : Type 0 where
  pub near : hop ≡ ROUTER_HOP
  pub whole : AreOptions options

-- a message that may come from a source with a hop limit
abbrev pub IsValid : Ip6 → ℕ → Message → Type 0
IsValid src hop (echo_request id seq body) = Unit {0}
IsValid src hop (echo_reply id seq body) = Unit {0}
IsValid src hop (router_solicit options) = IsOfRouter hop options
IsValid src hop (router_advert own_hop flags life reach retrans options) = IsTrue (is_link_local src) × IsOfRouter hop options
IsValid src hop (other kind code rest) = (kind ≢ ECHO_REQUEST) × (kind ≢ ECHO_REPLY) × (kind ≢ ROUTER_SOLICIT) × (kind ≢ ROUTER_ADVERT)

-- X is a message that came from src to dst with a hop limit. Its checksum field is the very checksum; the
-- reserved field of a solicitation is free.
pub record MessageBytes (src dst : Ip6) (hop : ℕ) (m : Message) (x : List ℕ) : Type 0 where
  pub fits : MessageFits m
  pub valid : IsValid src hop m
  pub reserved : ℕ
  pub reserved_fits : reserved < 2 ^ 32
  pub bytes : x ≡ layout (checksum_of src dst x) reserved m
