-- The first packet from a host of the IPv6 Internet to a client that is settled along its way: it is held there until the host has
-- answered a test, and then handed over (RFC 4380, sections 5.2.3, 5.2.9 and 5.4).
use Rattle.std.specs.Prelude.{◌≡◌, ◌≤◌, ℕ, true, false, List, [], ◌∷◌, length, Some}
use Rattle.td_base.specs.declared.ipv6.Ip6.{Ip6}
use Rattle.ipv6_packet.specs.Reads.{fields_in}
use Rattle.teredo_addr.specs.Teredo.{has_cone}
use Rattle.bubble.specs.Messages.{message_in, is_echo_reply}
use Rattle.teredo_node.specs.declared.fate.Fate.TheVariants as fate
use Rattle.topology.specs.declared.client_node.ClientNode.{ClientNode}
use Rattle.topology.specs.declared.relay_node.RelayNode.{RelayNode}
use Rattle.topology.specs.declared.native_node.NativeNode.{NativeNode}
use Rattle.history.specs.Full.{Full}
use Rattle.legal.specs.Lab.{Lab}
use Rattle.theory_first_packets.specs.Schedules.{AreFresh, IsComplete, SomeIs}
use Rattle.theory_first_packets.specs.FirstPacket.{HostHandsIn}
use Rattle.theory_first_natives.specs.Relayed.{AreNewToEachOther}

-- *first packet of a native host*: what its host hands in for a settled client, where client, host and relay are new to
-- each other; no bubble, no echo reply.
-- in the record after H the host of native m hands in x for client n. A client drops echo replies of hosts that it doesn't know
-- Premise: the packet: the `nodes` are new to each other, or may meet through the relay; the host hands it in,
-- `handed`; and it is `no_reply`: a client drops echo replies of hosts that it doesn't know.
pub record IsFirstFromNative (lab : Lab) (H : List Full) (q : Full) (n m k : ℕ) (a : ClientNode) (h : NativeNode) (r : RelayNode) (own : Ip6)
    (x : List ℕ) : Type 0 where
  pub nodes : AreNewToEachOther lab H n m k a h r own
  pub handed : HostHandsIn q m h.six own x
  pub no_reply : is_echo_reply (message_in (fields_in x)) ≡ false

-- a record hands just x to the host of client n late, by rule 2
pub record ArrivesLate (n : ℕ) (x : List ℕ) (q : Full) : Type 0 where
  pub node : q.node ≡ Some n
  pub packet : q.late ≡ x ∷ []
  pub rule : q.fate ≡ fate.Rule2

-- one of these records does
abbrev pub HasArrivedLate : ℕ → List ℕ → List Full → Type 0
HasArrivedLate n x = SomeIs (ArrivesLate n x)

-- a fresh schedule after it has at most nine deliveries, six where the client's address has the cone bit. A complete one hands x
-- to the client's host
pub record GetsFromNative (H : List Full) (q : Full) (n : ℕ) (own : Ip6) (x : List ℕ) (later : List Full) : Type 0 where
  pub few : length later ≤ 9
  pub few_to_cone : has_cone own ≡ true → length later ≤ 6
  pub arrives : IsComplete H q later → HasArrivedLate n x later

-- it is carried in the schedule after it, where this is fresh
abbrev pub FirstFromNativeArrivesAlong : Lab → List Full → Full → List Full → Type 0
FirstFromNativeArrivesAlong lab H q later = (n m k : ℕ) (a : ClientNode) (h : NativeNode) (r : RelayNode) (own : Ip6) (x : List ℕ)
    → IsFirstFromNative lab H q n m k a h r own x → AreFresh q later → GetsFromNative H q n own x later
