-- The bytes of a message: RFC 4443, sections 4.1 and 4.2, RFC 4861, sections 4.1 and 4.2.
use Rattle.std.specs.Prelude.{ℕ, ◌+◌, List, ◌∷◌, ◌++◌, length}
use Rattle.byteorder.specs.Endian.{big_bytes}
use Rattle.td_base.specs.declared.ipv6.Ip6.{Ip6}
use Rattle.icmp6.specs.declared.numbers.TheConstants.{ECHO_REQUEST, ECHO_REPLY, ROUTER_SOLICIT, ROUTER_ADVERT, HEAD_LEN, ECHO_LEN, SOLICIT_LEN, ADVERT_LEN}
use Rattle.icmp6.specs.Checksum.{checksum_of}
use Rattle.icmp6.specs.Message.{Message, echo_request, echo_reply, router_solicit, router_advert, other}

-- type, code, this checksum, and what the type has; a solicitation has this reserved field of 32 bits
abbrev pub layout : (sum reserved : ℕ) → Message → List ℕ
layout sum reserved (echo_request id seq body) = ECHO_REQUEST ∷ 0 ∷ (big_bytes 2 sum ++ (big_bytes 2 id ++ (big_bytes 2 seq ++ body)))
layout sum reserved (echo_reply id seq body) = ECHO_REPLY ∷ 0 ∷ (big_bytes 2 sum ++ (big_bytes 2 id ++ (big_bytes 2 seq ++ body)))
layout sum reserved (router_solicit options) = ROUTER_SOLICIT ∷ 0 ∷ (big_bytes 2 sum ++ (big_bytes 4 reserved ++ options))
layout sum reserved (router_advert hop flags life reach retrans options) =
    ROUTER_ADVERT ∷ 0 ∷ (big_bytes 2 sum ++ (hop ∷ flags ∷ (big_bytes 2 life ++ (big_bytes 4 reach ++ (big_bytes 4 retrans ++ options)))))
layout sum reserved (other kind code rest) = kind ∷ code ∷ (big_bytes 2 sum ++ rest)

-- how many bytes a message has
abbrev pub message_len : Message → ℕ
message_len (echo_request id seq body) = ECHO_LEN + length body
message_len (echo_reply id seq body) = ECHO_LEN + length body
message_len (router_solicit options) = SOLICIT_LEN + length options
message_len (router_advert hop flags life reach retrans options) = ADVERT_LEN + length options
message_len (other kind code rest) = HEAD_LEN + length rest

-- the message with its right checksum
unfoldable pub message_bytes : Ip6 → Ip6 → Message → List ℕ
message_bytes src dst m = layout (checksum_of src dst (layout 0 0 m)) 0 m
