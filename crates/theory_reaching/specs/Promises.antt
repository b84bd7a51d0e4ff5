-- What each word on two hosts promises of the next packet from the one to the other, in whatever order the datagrams that it
-- draws are delivered.
use Rattle.std.specs.Prelude.{◌≡◌, ◌≢◌, ◌≤◌, ◌+◌, ℕ, true, false, List, [], ◌∷◌, ◌++◌, length, Contains, Some}
use Rattle.ipv6_packet.specs.Reads.{fields_in}
use Rattle.bubble.specs.Messages.{message_in, is_echo_reply}
use Rattle.teredo_node.specs.Fate.{is_drop}
use Rattle.teredo_node.specs.Journal.{Entry}
use Rattle.client_rules.specs.Tries.{test_bytes}
use Rattle.client_rules.specs.Bearings.{bearing_of}
use Rattle.td_base.specs.declared.ipv6.Ip6.{Ip6}
use Rattle.topology.specs.declared.client_node.ClientNode.{ClientNode}
use Rattle.topology.specs.declared.relay_node.RelayNode.{RelayNode}
use Rattle.topology.specs.declared.native_node.NativeNode.{NativeNode}
use Rattle.topology.specs.declared.node.Node.{Node}
use Rattle.topology.specs.declared.node.Node.TheVariants.{Client as client, Native as native}
use Rattle.topology.specs.Rules.{IsTopology}
use Rattle.topology.specs.Topology.{node_at, relay_at}
use Rattle.events.specs.declared.event.TheConstants.{ENTRY_NUMBER_MAX}
use Rattle.history.specs.Full.{Full, wire}
use Rattle.legal.specs.Lab.{Lab}
use Rattle.legal.specs.Next.{address_at}
use Rattle.legal.specs.Legal.{Grown}
use Rattle.theory_ways.specs.Ways.{IsChained}
use Rattle.peer_list.specs.Judged.{held_from}
use Rattle.theory_first_packets.specs.MayMeet.{known_by}
use Rattle.theory_first_packets.specs.Schedules.{AreFresh, IsComplete, SomeIs, IsWithin}
use Rattle.theory_first_packets.specs.FirstPacket.{HostHandsIn}
use Rattle.theory_first_natives.specs.MayMeetThroughRelay.{must_ask}
use Rattle.theory_first_natives.specs.NextFromNative.{GivesToHost, most_deliveries}
use Rattle.theory_first_natives.specs.ToNative.{BringsToNative}
use Rattle.theory_reaching.specs.declared.word.Reach.{Reach}
use Rattle.theory_reaching.specs.declared.word.Reach.TheVariants as word
use Rattle.theory_reaching.specs.ThroughRelay.{relayed}
use Rattle.theory_reaching.specs.FromNative.{from_native_row}
use Rattle.theory_reaching.specs.Reach.{reach_of}

-- THE PACKET

-- a native sends no echo reply
abbrev pub IsNoReply : Node → List ℕ → Type 0
IsNoReply (native h) x = is_echo_reply (message_in (fields_in x)) ≡ false
IsNoReply _ x = Unit {0}

-- in the record after H the host of node n, which is a, hands in x for node m, from its own address to that of m
pub record IsSentNext (lab : Lab) (H : List Full) (q : Full) (n m : ℕ) (a : Node) (x : List ℕ) : Type 0 where
  pub handed : HostHandsIn q n (address_at lab H n) (address_at lab H m) x
  pub no_reply : IsNoReply a x

-- a record brings x to node m, which is b: it hands it to a client's host, at once or late, or to a native
abbrev pub BringsTo : ℕ → Node → List ℕ → Full → Type 0
BringsTo m (client c) x = GivesToHost m x
BringsTo m (native h) x = BringsToNative m x
BringsTo m _ x = λ (q : Full). ⊥

-- one of these records does
abbrev pub SomeBrings : ℕ → Node → List ℕ → List Full → Type 0
SomeBrings m b x = SomeIs (BringsTo m b x)

-- THE PROMISES

-- one of the first so many records does
abbrev pub BringsWithin : (most m : ℕ) → Node → List ℕ → List Full → Type 0
BringsWithin most m b x = IsWithin most (BringsTo m b x)

-- an event can name each entry of the wire: so it is as long as no more than 65,536 entries were made, which is all that is played
abbrev pub IsNameable : List Full → Type 0
IsNameable H = length (wire H) ≤ ENTRY_NUMBER_MAX + 1

-- a schedule that is complete, or has so many deliveries, brings x to node m by then. More may come after it: of the answer to
-- an echo request, and of packets that the receiver kept for the sender
pub record ComesInTime (H : List Full) (q : Full) (m : ℕ) (b : Node) (x : List ℕ) (later : List Full) (most : ℕ) : Type 0 where
  pub whole : IsComplete H q later → BringsWithin most m b x later
  pub enough : IsNameable (later ++ q ∷ H) → most ≤ length later → BringsWithin most m b x later

-- the packet is dropped at once, and draws nothing
pub record IsDroppedAtOnce (q : Full) (later : List Full) : Type 0 where
  pub drop : is_drop q.fate ≡ true
  pub nothing : q.made ≡ []
  pub alone : later ≡ []

-- no delivery brings x to node m
abbrev pub IsShut : ℕ → Node → List ℕ → List Full → Type 0
IsShut m b x later = SomeBrings m b x later → ⊥

-- *own test*, of a record: the packet that is handed in has the bytes of the test that its own record drew.
-- x is, byte for byte, the test of the host that the client with the address own drew in record q
pub record IsOwnTest (q : Full) (own host : Ip6) (x : List ℕ) : Type 0 where
  pub entry : Entry
  pub did : q.entry ≡ Some entry
  pub nonce : ℕ
  pub drew : (bearing_of entry.step.fate entry).nonce ≡ Some nonce
  pub same : x ≡ test_bytes own host nonce

-- a client's packet for native m comes by the second delivery where it is the very test that its record drew, and else never
pub record NoneButItsTest (H : List Full) (q : Full) (m : ℕ) (h : NativeNode) (x : List ℕ) (later : List Full) : Type 0 where
  pub test : IsOwnTest q (fields_in x).src h.six x → ComesInTime H q m (native h) x later 2
  pub others : (IsOwnTest q (fields_in x).src h.six x → ⊥) → IsShut m (native h) x later

-- it never comes; to a native host none does but that test
abbrev pub NoneComes : List Full → Full → ℕ → (a b : Node) → List ℕ → List Full → Type 0
NoneComes H q m (client c) (native h) x later = NoneButItsTest H q m h x later
NoneComes H q m _ b x later = IsShut m b x later

-- *held packet*, of a client: a packet that is handed in has the bytes of one that the client holds of the native host from its relay, and the
-- four that it holds are all that makes it `full`. The client tests the host anew, and hands over what it held once that answers.
-- x is, byte for byte, one that client m, which is d, holds of the host from the host's relay; with fewer than four held there would be room
pub record ComesWithHeld (lab : Lab) (H : List Full) (m : ℕ) (h : NativeNode) (d : ClientNode) (x : List ℕ) : Type 0 where
  pub via : RelayNode
  pub through : relay_at lab.topology h.relay ≡ Some via
  pub held : Contains (held_from via.at (known_by H m h.six).held) x
  pub alone : from_native_row (record (relayed lab H m d h via) { holds_most = false }) ≢ word.Full

-- a native host's packet comes with what the client holds, by the 6th delivery, or by the 9th where the relay must hear from the client first, and
-- else never
pub record NoneButHeld (lab : Lab) (H : List Full) (q : Full) (m : ℕ) (h : NativeNode) (d : ClientNode) (x : List ℕ) (later : List Full)
    : Type 0 where
  pub held : ComesWithHeld lab H m h d x → ComesInTime H q m (client d) x later (most_deliveries (must_ask H h.relay (address_at lab H m)))
  pub others : (ComesWithHeld lab H m h d x → ⊥) → IsShut m (client d) x later

-- where there is no room none comes, but for those two
abbrev pub NoneHasRoom : Lab → List Full → Full → ℕ → (a b : Node) → List ℕ → List Full → Type 0
NoneHasRoom lab H q m (native h) (client d) x later = NoneButHeld lab H q m h d x later
NoneHasRoom lab H q m a b x later = NoneComes H q m a b x later

-- *promise of a word*: what it says of each fresh schedule after the next packet: that this comes within so many
-- deliveries, that it doesn't, or nothing.
-- what a word promises of a fresh schedule after a packet from a host to node m
abbrev pub IsPromised : Lab → List Full → Full → ℕ → (a b : Node) → List ℕ → List Full → Reach → Type 0
IsPromised lab H q m a b x later word.Off = IsDroppedAtOnce q later
IsPromised lab H q m a b x later word.Away = IsDroppedAtOnce q later
IsPromised lab H q m a b x later word.OneAddress = IsShut m b x later
IsPromised lab H q m a b x later word.Moved = IsShut m b x later
IsPromised lab H q m a b x later word.OneNat = IsShut m b x later
IsPromised lab H q m a b x later word.Full = NoneHasRoom lab H q m a b x later
IsPromised lab H q m a b x later word.Stale = NoneComes H q m a b x later
IsPromised lab H q m a b x later word.Barred = NoneComes H q m a b x later
IsPromised lab H q m a b x later word.Within1 = ComesInTime H q m b x later 1
IsPromised lab H q m a b x later word.Within2 = ComesInTime H q m b x later 2
IsPromised lab H q m a b x later word.Within4 = ComesInTime H q m b x later 4
IsPromised lab H q m a b x later word.Within5 = ComesInTime H q m b x later 5
IsPromised lab H q m a b x later word.Within6 = ComesInTime H q m b x later 6
IsPromised lab H q m a b x later word.Within7 = ComesInTime H q m b x later 7
IsPromised lab H q m a b x later word.Within8 = ComesInTime H q m b x later 8
IsPromised lab H q m a b x later word.Within9 = ComesInTime H q m b x later 9
IsPromised lab H q m a b x later word.Within10 = ComesInTime H q m b x later 10
IsPromised lab H q m a b x later word.Within11 = ComesInTime H q m b x later 11
IsPromised lab H q m a b x later word.Within12 = ComesInTime H q m b x later 12
IsPromised lab H q m a b x later word.Within13 = ComesInTime H q m b x later 13
IsPromised lab H q m a b x later _ = Unit {0}

-- after this history of this laboratory the word keeps it
abbrev pub KeepsItsPromiseIn : Lab → List Full → Reach → Type 0
KeepsItsPromiseIn lab H said = (q : Full) (later : List Full) (n m : ℕ) (a b : Node) (x : List ℕ) → Grown lab (later ++ q ∷ H)
    → node_at lab.topology n ≡ Some a → node_at lab.topology m ≡ Some b → reach_of lab H n m ≡ Some said → IsSentNext lab H q n m a x
    → AreFresh q later → IsPromised lab H q m a b x later said

-- so does the word of a client on another one
abbrev pub KeepsBetweenClientsIn : Lab → List Full → Reach → Type 0
KeepsBetweenClientsIn lab H said = (q : Full) (later : List Full) (n m : ℕ) (c d : ClientNode) (x : List ℕ) → Grown lab (later ++ q ∷ H)
    → node_at lab.topology n ≡ Some (client c) → node_at lab.topology m ≡ Some (client d) → reach_of lab H n m ≡ Some said
    → IsSentNext lab H q n m (client c) x → AreFresh q later → IsPromised lab H q m (client c) (client d) x later said

-- and that of a native host on a client
abbrev pub KeepsFromNativesIn : Lab → List Full → Reach → Type 0
KeepsFromNativesIn lab H said = (q : Full) (later : List Full) (n m : ℕ) (h : NativeNode) (d : ClientNode) (x : List ℕ) → Grown lab (later ++ q ∷ H)
    → node_at lab.topology n ≡ Some (native h) → node_at lab.topology m ≡ Some (client d) → reach_of lab H n m ≡ Some said
    → IsSentNext lab H q n m (native h) x → AreFresh q later → IsPromised lab H q m (native h) (client d) x later said

-- and that of a client on a native host
abbrev pub KeepsToNativesIn : Lab → List Full → Reach → Type 0
KeepsToNativesIn lab H said = (q : Full) (later : List Full) (n m : ℕ) (c : ClientNode) (h : NativeNode) (x : List ℕ) → Grown lab (later ++ q ∷ H)
    → node_at lab.topology n ≡ Some (client c) → node_at lab.topology m ≡ Some (native h) → reach_of lab H n m ≡ Some said
    → IsSentNext lab H q n m (client c) x → AreFresh q later → IsPromised lab H q m (client c) (native h) x later said

-- IN EACH HISTORY

-- of a topology that keeps its rules, with a chain that does
abbrev pub OfEachHistory : (Lab → List Full → Type 0) → Type 0
OfEachHistory P = (lab : Lab) (H : List Full) → IsTopology lab.topology → IsChained lab → P lab H

-- the word keeps its promise after each history
abbrev pub KeepsItsPromise : Reach → Type 0
KeepsItsPromise said = OfEachHistory (λ (lab : Lab) (H : List Full). KeepsItsPromiseIn lab H said)

-- the word on two clients keeps its promise after each history
abbrev pub KeepsBetweenClients : Reach → Type 0
KeepsBetweenClients said = OfEachHistory (λ (lab : Lab) (H : List Full). KeepsBetweenClientsIn lab H said)

-- the word on packets from native hosts keeps its promise after each history
abbrev pub KeepsFromNatives : Reach → Type 0
KeepsFromNatives said = OfEachHistory (λ (lab : Lab) (H : List Full). KeepsFromNativesIn lab H said)

-- the word on packets to native hosts keeps its promise after each history
abbrev pub KeepsToNatives : Reach → Type 0
KeepsToNatives said = OfEachHistory (λ (lab : Lab) (H : List Full). KeepsToNativesIn lab H said)
