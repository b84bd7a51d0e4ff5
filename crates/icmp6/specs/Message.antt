-- Messages as lists of bytes, with the first fault that is met: RFC 4443, RFC 4861.
use Rattle.std.specs.Prelude.{ℕ, List, [], length, drop, slice_index, Result, Ok, Err, nat_lt, not, ◌==◌, if◌then◌else◌}
use Rattle.td_base.specs.Bytes.{number_at}
use Rattle.td_base.specs.Results.{◌>>=◌}
use Rattle.td_base.specs.Reach.{is_link_local}
use Rattle.td_base.specs.declared.ipv6.Ip6.{Ip6}
use Rattle.icmp6.specs.declared.message.Msg.{Msg}
use Rattle.icmp6.specs.declared.message.Msg.TheVariants.{EchoRequest, EchoReply, RouterSolicit, RouterAdvert, Other}
use Rattle.icmp6.specs.declared.fault.IcmpFault.{IcmpFault}
use Rattle.icmp6.specs.declared.fault.IcmpFault.TheVariants.{Short, Sum, HopLimit, Code, Source}
use Rattle.icmp6.specs.declared.numbers.TheConstants.{HEAD_LEN, ECHO_LEN, SOLICIT_LEN, ADVERT_LEN, ROUTER_HOP}
use Rattle.icmp6.specs.declared.numbers.TheConstants.{ECHO_REQUEST, ECHO_REPLY, ROUTER_SOLICIT, ROUTER_ADVERT}
use Rattle.icmp6.specs.Checksum.{checksum_of}
use Rattle.icmp6.specs.Options.{whole_options}

-- a message without where its parts lie in memory
pub data Message : Type 0 where
  echo_request : (id seq : ℕ) (body : List ℕ) → Message
  echo_reply : (id seq : ℕ) (body : List ℕ) → Message
  router_solicit : (options : List ℕ) → Message
  router_advert : (hop flags life reach retrans : ℕ) (options : List ℕ) → Message
  other : (kind code : ℕ) (rest : List ℕ) → Message

-- what a message says
abbrev pub message_view : Msg → Message
message_view (EchoRequest id seq body) = echo_request id seq body.now
message_view (EchoReply id seq body) = echo_reply id seq body.now
message_view (RouterSolicit options) = router_solicit options.now
message_view (RouterAdvert hop flags life reach retrans options) = router_advert hop flags life reach retrans options.now
message_view (Other kind code rest) = other kind code rest.now

-- the options that a message lends
abbrev pub options_in : Message → List ℕ
options_in (router_solicit options) = options
options_in (router_advert hop flags life reach retrans options) = options
options_in _ = []

-- ---- the tests that several types share

-- at least so many bytes
abbrev pub has_len : ℕ → List ℕ → Result (Unit {0}) IcmpFault
has_len least x = if nat_lt (length x) least then Err (Short (length x)) else Ok tt

-- RFC 4861, section 6.1: no router on the way has lowered the hop limit
abbrev pub has_hop : ℕ → Result (Unit {0}) IcmpFault
has_hop hop = if hop == ROUTER_HOP then Ok tt else Err (HopLimit hop)

-- code 0
abbrev pub has_code : List ℕ → Result (Unit {0}) IcmpFault
has_code x = if slice_index x 1 == 0 then Ok tt else Err (Code (slice_index x 1))

-- RFC 4861, section 6.1.2: a link-local source
abbrev pub has_source : Ip6 → Result (Unit {0}) IcmpFault
has_source src = if is_link_local src then Ok tt else Err Source

-- ---- each type

-- RFC 4443, section 4.1
unfoldable pub echo_request_at : List ℕ → Result Message IcmpFault
echo_request_at x = do
  _ ← has_len ECHO_LEN x
  _ ← has_code x
  Ok (echo_request (number_at 4 2 x) (number_at 6 2 x) (drop ECHO_LEN x))

-- RFC 4443, section 4.2
unfoldable pub echo_reply_at : List ℕ → Result Message IcmpFault
echo_reply_at x = do
  _ ← has_len ECHO_LEN x
  _ ← has_code x
  Ok (echo_reply (number_at 4 2 x) (number_at 6 2 x) (drop ECHO_LEN x))

-- RFC 4861, section 6.1.1; the reserved field isn't looked at
unfoldable pub solicit_at : ℕ → List ℕ → Result Message IcmpFault
solicit_at hop x = do
  _ ← has_len SOLICIT_LEN x
  _ ← has_hop hop
  _ ← has_code x
  _ ← whole_options (length x) SOLICIT_LEN x
  Ok (router_solicit (drop SOLICIT_LEN x))

-- RFC 4861, section 6.1.2
unfoldable pub advert_at : Ip6 → ℕ → List ℕ → Result Message IcmpFault
advert_at src hop x = do
  _ ← has_len ADVERT_LEN x
  _ ← has_hop hop
  _ ← has_code x
  _ ← has_source src
  _ ← whole_options (length x) ADVERT_LEN x
  Ok (router_advert (slice_index x 4) (slice_index x 5) (number_at 6 2 x) (number_at 8 4 x) (number_at 12 4 x) (drop ADVERT_LEN x))

-- ---- any type

-- the message of x, or the first fault
unfoldable pub message_at : Ip6 → Ip6 → ℕ → List ℕ → Result Message IcmpFault
message_at src dst hop x =
    let kind = slice_index x 0 in
    let said = number_at 2 2 x in
    let found = checksum_of src dst x in
    if nat_lt (length x) HEAD_LEN then Err (Short (length x))
    else if not (said == found) then Err (Sum said found)
    else if kind == ECHO_REQUEST then echo_request_at x
    else if kind == ECHO_REPLY then echo_reply_at x
    else if kind == ROUTER_SOLICIT then solicit_at hop x
    else if kind == ROUTER_ADVERT then advert_at src hop x
    else Ok (other kind (slice_index x 1) (drop HEAD_LEN x))
