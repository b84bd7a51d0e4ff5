-- Numbers of rules that specs take from the code's constants, of crates that have no record of them, or whose record hasn't these.
use Rattle.std.specs.Prelude.{◌≡◌, ◌+◌, ◌^◌, ◌++◌, [], ◌∷◌, replicate}
use Rattle.td_base.specs.declared.line.TheConstants.{LINE_LEN}
use Rattle.td_base.specs.declared.numeral.TheConstants.{NUMBER_LEN}
use Rattle.td_base.specs.declared.endpoint.TheConstants.{TEREDO_PORT}
use Rattle.td_base.specs.declared.short_text.TheConstants.{SHORT_LEN}
use Rattle.td_base.specs.declared.datagram.TheConstants.{DATAGRAM_MAX}
use Rattle.td_outside.specs.declared.mem_link.TheConstants.{CLIENT_PORT}
use Rattle.td_base.specs.declared.millis.TheConstants.{CLOCK_END_MS}
use Rattle.td_pcap.specs.declared.head.TheConstants.{HEAD, MAGIC_MICRO, MAGIC_NANO, MAGIC_MICRO_LITTLE, MAGIC_NANO_LITTLE, MAJOR, MINOR, LINK_RAW}
use Rattle.td_pcap.specs.declared.record.TheConstants.{REC_HEAD, KEPT_MAX}
use Rattle.icmp6.specs.declared.numbers.TheConstants.{MESSAGE_MAX}
use Rattle.teredo_addr.specs.declared.local.TheConstants.{ALL_ROUTERS, UNSPECIFIED}
use Rattle.teredo_node.specs.declared.fate.TheConstants.{FATE_LEN}
use Rattle.td_turns.specs.declared.serve.TheConstants.{TURNS_MAX}
use Rattle.qualify.specs.declared.limits.TheConstants.{DUE_END_MS}
use Rattle.native_host.specs.declared.limits.TheConstants.{HOST_HOP, HOST_DATA_NEXT, HOST_ECHO_ID}

-- addresses, texts and datagrams
pub record BaseNumbers : Type 0 where
  -- RFC 4380, section 2.7: the UDP port of servers
  pub teredo_port : TEREDO_PORT ≡ 3544
  -- our choice: RFC 4380, section 5.1.2, has an MTU of 1,280 bytes, and indications want room
  pub datagram_most : DATAGRAM_MAX ≡ 1400
  -- our choice: the bytes of a line
  pub line : LINE_LEN ≡ 1024
  -- the digits of the greatest number of 64 bits
  pub number : NUMBER_LEN ≡ 20
  -- our choice: an IPv6 address of RFC 5952 has 39 bytes at most, and an endpoint 21
  pub short : SHORT_LEN ≡ 40
  -- RFC 4291, section 2.7.1: all routers of a link
  pub all_routers : ALL_ROUTERS ≡ record { 0 = 255 ∷ 2 ∷ (replicate 13 0 ++ 2 ∷ []) }
  -- RFC 4291, section 2.5.2: the address of no node
  pub unspecified : UNSPECIFIED ≡ record { 0 = replicate 16 0 }
  -- our choice: a datagram's bytes without a packet's header
  pub message_most : MESSAGE_MAX ≡ 1360

-- links, time and nodes, all of it our choice
pub record NodeNumbers : Type 0 where
  -- the port of a client's link in memory
  pub client_port : CLIENT_PORT ≡ 40000
  -- each moment of a clock is before this one, in milliseconds
  pub clock_end : CLOCK_END_MS ≡ 2 ^ 48
  -- and each at which something is due before this one: the longest time between two refreshes has 32 bits
  pub due_end : DUE_END_MS ≡ 2 ^ 48 + 2 ^ 32
  -- the bytes of a fate's word
  pub fate : FATE_LEN ≡ 20
  -- the most arrivals and idle turns that a loop is asked for
  pub turns_most : TURNS_MAX ≡ 1000000000

-- the packets of a host
pub record HostNumbers : Type 0 where
  -- RFC 4861, section 6.3.2: what a host takes that no router told another; RFC 1700 has the number
  pub hop : HOST_HOP ≡ 64
  -- RFC 3692, section 2.1: a number for experiments
  pub data_next : HOST_DATA_NEXT ≡ 253
  -- our choice
  pub echo_id : HOST_ECHO_ID ≡ 1

-- the classic form of libpcap's files
pub record CaptureNumbers : Type 0 where
  pub head : HEAD ≡ 24
  -- fractions of microseconds and of nanoseconds, and the same bytes with the lowest first
  pub micro : MAGIC_MICRO ≡ 0xa1b2c3d4
  pub nano : MAGIC_NANO ≡ 0xa1b23c4d
  pub micro_little : MAGIC_MICRO_LITTLE ≡ 0xd4c3b2a1
  pub nano_little : MAGIC_NANO_LITTLE ≡ 0x4d3cb2a1
  -- version 2.4
  pub major : MAJOR ≡ 2
  pub minor : MINOR ≡ 4
  -- LINKTYPE_RAW
  pub link : LINK_RAW ≡ 101
  pub record_head : REC_HEAD ≡ 16
  -- RFC 791, section 3.1: the total length of a packet has 16 bits
  pub kept_most : KEPT_MAX ≡ 65535
