-- For each that a client, a native host and its relay must not know of one another a history without it, in which all is delivered
-- that the host's first packet draws, and it doesn't arrive.
use Rattle.worked_facts.proofs.Words.{Full, GetsFromNative, List, Scenario, Some, [], drop, false, given, play, playing, refl, slice_get, some_words, take, true, ℕ, ◌∷◌, ◌≡◌}
use Rattle.nat_kinds.specs.declared.kind.NatKind.TheVariants as kind
use Rattle.teredo_node.specs.declared.fate.Fate.TheVariants as fate
use Rattle.events.specs.declared.event.Event.TheVariants as event
use Rattle.events.specs.declared.target.Target.TheVariants as target
use Rattle.worked_facts.proofs.NativeViews.{native_packet}
use Rattle.worked_facts.proofs.NotLate.{not_carried_late}
use Rattle.worked_facts.proofs.NativeNodes.{a_own, lab, to_a, to_r, after_qualifying}
use Rattle.worked_facts.proofs.NativeFacts.{to_port_three, to_port_x, new_behind_port}

-- the relay has just asked for the client, in vain: a second packet waits behind the first, and nothing comes of it
abbrev pub relay_lists_client : Scenario
relay_lists_client = after_qualifying (to_a ∷ event.Deliver 7 ∷ to_a ∷ event.Deliver 9 ∷ [])

pub relay_lists_client-view : native_packet (lab kind.Port) to_port_three 1 (play some_words relay_lists_client 15 []) ≡ Some (record {
  before = record new_behind_port { client_listed = true };
  node = Some 4;
  input = Some (given to_port_x);
  delivered = Some 9 ∷ [];
  left = [];
  faults = false;
  fates = fate.Queued ∷ [];
  late = [] ∷ [];
})
unfolding playing
relay_lists_client-view = refl

pub relay_lists_client-fails : (q : Full) → slice_get (play some_words relay_lists_client 15 []) 1 ≡ Some q → (x : List ℕ)
    → GetsFromNative (drop 2 (play some_words relay_lists_client 15 [])) q 2 a_own x (take 1 (play some_words relay_lists_client 15 [])) → ⊥
relay_lists_client-fails = not_carried_late (lab kind.Port) to_port_three 1 (play some_words relay_lists_client 15 []) _ relay_lists_client-view refl refl

-- the client has just sent to the relay's own address: so it is barred from answering the relay's bubble
abbrev pub client_lists_relay : Scenario
client_lists_relay = after_qualifying (to_r ∷ to_a ∷ event.Deliver 8 ∷ event.Deliver 9 ∷ event.Deliver 10 ∷ [])

pub client_lists_relay-view : native_packet (lab kind.Port) to_port_three 3 (play some_words client_lists_relay 16 []) ≡ Some (record {
  before = record new_behind_port { relay_listed = true; listed_are = 1 };
  node = Some 4;
  input = Some (given to_port_x);
  delivered = Some 10 ∷ Some 9 ∷ Some 8 ∷ [];
  left = [];
  faults = false;
  fates = fate.Barred ∷ fate.ForwardOrigin ∷ fate.Queued ∷ [];
  late = [] ∷ [] ∷ [] ∷ [];
})
unfolding playing
client_lists_relay-view = refl

pub client_lists_relay-fails : (q : Full) → slice_get (play some_words client_lists_relay 16 []) 3 ≡ Some q → (x : List ℕ)
    → GetsFromNative (drop 4 (play some_words client_lists_relay 16 [])) q 2 a_own x (take 3 (play some_words client_lists_relay 16 [])) → ⊥
client_lists_relay-fails = not_carried_late (lab kind.Port) to_port_three 3 (play some_words client_lists_relay 16 []) _ client_lists_relay-view refl refl

-- the client has just tested the host, in vain: so it holds the packet, and sends no further test
abbrev pub client_lists_host : Scenario
client_lists_host = after_qualifying (event.Host 2 (target.Node 4) (119 ∷ []) ∷ to_a ∷ event.Deliver 8 ∷ event.Deliver 9 ∷ event.Deliver 10 ∷ event.Deliver 11 ∷ event.Deliver 12 ∷ [])

pub client_lists_host-view : native_packet (lab kind.Port) to_port_three 5 (play some_words client_lists_host 18 []) ≡ Some (record {
  before = record new_behind_port { host_listed = true; listed_are = 1 };
  node = Some 4;
  input = Some (given to_port_x);
  delivered = Some 12 ∷ Some 11 ∷ Some 10 ∷ Some 9 ∷ Some 8 ∷ [];
  left = [];
  faults = false;
  fates = fate.Held ∷ fate.FromClientBubble ∷ fate.Indirect ∷ fate.ForwardOrigin ∷ fate.Queued ∷ [];
  late = [] ∷ [] ∷ [] ∷ [] ∷ [] ∷ [];
})
unfolding playing
client_lists_host-view = refl

pub client_lists_host-fails : (q : Full) → slice_get (play some_words client_lists_host 18 []) 5 ≡ Some q → (x : List ℕ)
    → GetsFromNative (drop 6 (play some_words client_lists_host 18 [])) q 2 a_own x (take 5 (play some_words client_lists_host 18 [])) → ⊥
client_lists_host-fails = not_carried_late (lab kind.Port) to_port_three 5 (play some_words client_lists_host 18 []) _ client_lists_host-view refl refl
