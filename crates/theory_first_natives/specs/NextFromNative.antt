-- A packet from a host of the IPv6 Internet to a client, be it the first or a later one: wherever it may come to the client it comes
-- by so many deliveries (RFC 4380, sections 5.2.3, 5.2.9 and 5.4). More may come after it: of packets that the client kept for the
-- host, and of what its host says to that.
use Rattle.std.specs.Prelude.{◌≡◌, ◌≤◌, ◌⊎◌, ℕ, Bool, true, false, List, length, Contains, Some}
use Rattle.td_base.specs.declared.ipv6.Ip6.{Ip6}
use Rattle.ipv6_packet.specs.Reads.{fields_in}
use Rattle.bubble.specs.Messages.{message_in, is_echo_reply}
use Rattle.peer_list.specs.Judged.{is_trusted_at}
use Rattle.topology.specs.declared.client_node.ClientNode.{ClientNode}
use Rattle.topology.specs.declared.relay_node.RelayNode.{RelayNode}
use Rattle.topology.specs.declared.native_node.NativeNode.{NativeNode}
use Rattle.history.specs.Full.{Full}
use Rattle.legal.specs.Lab.{Lab}
use Rattle.theory_first_packets.specs.Schedules.{AreFresh, IsComplete, IsWithin}
use Rattle.theory_first_packets.specs.FirstPacket.{HostHandsIn}
use Rattle.theory_first_packets.specs.MayMeet.{known_by}
use Rattle.theory_first_natives.specs.MayMeetThroughRelay.{must_ask, MayMeetThroughRelay}

-- in the record after H the host of native m hands in x for client n. A client may drop an echo reply
-- Premise: See `IsFirstFromNative`.
pub record IsNextFromNative (lab : Lab) (H : List Full) (q : Full) (n m k : ℕ) (a : ClientNode) (h : NativeNode) (r : RelayNode) (own : Ip6)
    (x : List ℕ) : Type 0 where
  pub nodes : MayMeetThroughRelay lab H n m k a h r own
  pub handed : HostHandsIn q m h.six own x
  pub no_reply : is_echo_reply (message_in (fields_in x)) ≡ false

-- a record hands x to the host of client n, at once or late
pub record GivesToHost (n : ℕ) (x : List ℕ) (q : Full) : Type 0 where
  pub node : q.node ≡ Some n
  pub packet : (q.handed ≡ Some x) ⊎ Contains q.late x

-- one of the first so many records does
abbrev pub GivesWithin : (most n : ℕ) → List ℕ → List Full → Type 0
GivesWithin most n x = IsWithin most (GivesToHost n x)

-- a schedule that is complete, or has so many deliveries, hands x to the client's host by then
pub record GivesInTime (H : List Full) (q : Full) (n : ℕ) (x : List ℕ) (later : List Full) (most : ℕ) : Type 0 where
  pub whole : IsComplete H q later → GivesWithin most n x later
  pub enough : most ≤ length later → GivesWithin most n x later

-- nine deliveries where the relay must hear from the client first, else six
abbrev pub most_deliveries : (asks : Bool) → ℕ
most_deliveries true = 9
most_deliveries false = 6

-- and four fewer where the client trusts the host at the relay, and tests nobody
abbrev pub most_from_native : (trusted asks : Bool) → ℕ
most_from_native true true = 5
most_from_native true false = 2
most_from_native false asks = most_deliveries asks

-- so it is in the schedule after it, where this is fresh
abbrev pub NextFromNativeArrivesAlong : Lab → List Full → Full → List Full → Type 0
NextFromNativeArrivesAlong lab H q later = (n m k : ℕ) (a : ClientNode) (h : NativeNode) (r : RelayNode) (own : Ip6) (x : List ℕ)
    → IsNextFromNative lab H q n m k a h r own x → AreFresh q later → GivesInTime H q n x later
    (most_from_native (is_trusted_at r.at (known_by H n h.six)) (must_ask H k own))
