-- The first packet of a client that is settled along its way to a host of the IPv6 Internet: it waits until the host has answered a
-- test, and goes to the host through the relay from which the answer came (RFC 4380, sections 5.2.4, 5.2.9 and 5.4).
use Rattle.std.specs.Prelude.{◌≡◌, ◌≤◌, ◌+◌, ℕ, Bool, false, if◌then◌else◌, List, length, Some, is_some}
use Rattle.td_base.specs.declared.ipv6.Ip6.{Ip6}
use Rattle.teredo_addr.specs.Teredo.{has_cone}
use Rattle.teredo_node.specs.declared.fate.Fate.TheVariants as fate
use Rattle.teredo_node.specs.Journal.{from_six, Entry}
use Rattle.native_host.specs.Natives.{native_in}
use Rattle.topology.specs.declared.client_node.ClientNode.{ClientNode}
use Rattle.topology.specs.declared.relay_node.RelayNode.{RelayNode}
use Rattle.topology.specs.declared.native_node.NativeNode.{NativeNode}
use Rattle.history.specs.Full.{Full}
use Rattle.legal.specs.Lab.{Lab}
use Rattle.theory_first_packets.specs.Schedules.{AreFresh, IsComplete, SomeIs, IsWithin}
use Rattle.theory_first_packets.specs.FirstPacket.{HostHandsIn}
use Rattle.theory_first_natives.specs.Relayed.{AreNewToEachOther}

-- *first packet to a native host*: what a settled client's host hands in for it, where client, host and relay are new
-- to each other; no bubble.
-- in the record after H the host of client n hands in x for native m
-- Premise: the packet the other way: the `nodes` are new to each other, or the client may reach the host; the client's
-- host hands it in, `handed`.
pub record IsFirstToNative (lab : Lab) (H : List Full) (q : Full) (n m k : ℕ) (a : ClientNode) (h : NativeNode) (r : RelayNode) (own : Ip6)
    (x : List ℕ) : Type 0 where
  pub nodes : AreNewToEachOther lab H n m k a h r own
  pub handed : HostHandsIn q n own h.six x

-- a record brings x to native m
pub record BringsToNative (m : ℕ) (x : List ℕ) (q : Full) : Type 0 where
  pub node : q.node ≡ Some m
  pub entry : Entry
  pub did : q.entry ≡ Some entry
  pub packet : entry.input ≡ from_six x

-- which keeps it or answers it
pub record ReachesNative (m : ℕ) (x : List ℕ) (q : Full) : Type 0 where
  pub brings : BringsToNative m x q
  pub fate : q.fate ≡ (native_in x).fate

-- one of these records does
abbrev pub HasComeToNative : ℕ → List ℕ → List Full → Type 0
HasComeToNative m x = SomeIs (ReachesNative m x)

-- one of the first so many records does
abbrev pub ComesWithin : (most m : ℕ) → List ℕ → List Full → Type 0
ComesWithin most m x = IsWithin most (ReachesNative m x)

-- so many deliveries bring it: nine, six where the client's address has the cone bit
abbrev pub most_to_native : Ip6 → ℕ
most_to_native own = if has_cone own then 6 else 9

-- the native answers x, which is an echo request
abbrev pub is_answered : List ℕ → Bool
is_answered x = is_some (native_in x).packet

-- a record hands the answer y to the host of client n, by rule 1
pub record HandsAnswer (n : ℕ) (y : List ℕ) (q : Full) : Type 0 where
  pub node : q.node ≡ Some n
  pub packet : q.handed ≡ Some y
  pub rule : q.fate ≡ fate.Rule1

-- one of these records does
abbrev pub HasAnswered : ℕ → List ℕ → List Full → Type 0
HasAnswered n y = SomeIs (HandsAnswer n y)

-- a fresh schedule after it has so many deliveries at most, and two more where the native answers x. One that is complete, or has
-- so many deliveries, brings x to the native by then. A complete one hands the answer to the client's host
pub record GetsToNative (H : List Full) (q : Full) (n m : ℕ) (x : List ℕ) (later : List Full) (most : ℕ) : Type 0 where
  pub few : is_answered x ≡ false → length later ≤ most
  pub few_with_answer : length later ≤ most + 2
  pub enough : most ≤ length later → ComesWithin most m x later
  pub arrives : IsComplete H q later → ComesWithin most m x later
  pub answered : IsComplete H q later → (y : List ℕ) → (native_in x).packet ≡ Some y → HasAnswered n y later

-- it is carried in the schedule after it, where this is fresh
abbrev pub FirstToNativeArrivesAlong : Lab → List Full → Full → List Full → Type 0
FirstToNativeArrivesAlong lab H q later = (n m k : ℕ) (a : ClientNode) (h : NativeNode) (r : RelayNode) (own : Ip6) (x : List ℕ)
    → IsFirstToNative lab H q n m k a h r own x → AreFresh q later → GetsToNative H q n m x later (most_to_native own)
