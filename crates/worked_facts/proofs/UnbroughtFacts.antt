-- For what the theorem on first packets to native hosts wants of a client, the host and its relay, of the packet and of what comes
-- after it a history without it, in which the packet doesn't come to the host.
use Rattle.worked_facts.proofs.Words.{ClientNode, Full, GetsToNative, HasComeToNative, Item, Lab, List, NativeNode, None, Option, Scenario, Some, TopologyState, [], comes_to, drop, ep, false, flat_lab, given, ip, most_to_native, name1, native_in, play, playing, refl, slice_get, some_words, take, true, udp, unwrap_or, wire, ℕ, ◌∷◌, ◌≡◌}
use Rattle.nat_kinds.specs.declared.kind.NatKind.TheVariants as kind
use Rattle.teredo_node.specs.declared.fate.Fate.TheVariants as fate
use Rattle.events.specs.declared.event.Event.TheVariants as event
use Rattle.events.specs.declared.target.Target.TheVariants as target
use Rattle.worked_facts.proofs.NativeNodes.{a_own, a_own_cone, client_row, relay_row, host_row, nodes, lab, to_a, to_h, to_r, after_qualifying, after_cone_qualifying}
use Rattle.worked_facts.proofs.NativeViews.{Three, native_packet}
use Rattle.worked_facts.proofs.ToNativeViews.{not_brought, not_there}
use Rattle.worked_facts.proofs.NativeFacts.{to_port_three, to_cone_three, new_behind_port, new_behind_cone}
use Rattle.worked_facts.proofs.ToNativeFacts.{from_port_x, from_port-does, from_cone_x, from_cone-does}

-- WHAT THE THREE ARE

-- another client behind the NAT of the first one, and the three with the numbers that they have then
abbrev other_row : ClientNode
other_row = record client_row { name = name1 98; inside = ep (ip 10 0 0 3) 4001 }

abbrev host_beside : NativeNode
host_beside = record host_row { relay = 4 }

abbrev nodes_beside : TopologyState
nodes_beside = record (nodes kind.Cone) { clients = client_row ∷ other_row ∷ []; natives = host_beside ∷ [] }

abbrev lab_beside : Lab
lab_beside = flat_lab some_words nodes_beside

abbrev three_beside : Three
three_beside = record { n = 2; m = 5; k = 4; a = client_row; h = host_beside; r = relay_row; own = a_own_cone }

-- the NAT has started anew and given the client's port to the other one: the server finds that the test isn't from where its source says
abbrev pub port_is_others : Scenario
port_is_others = record {
  seed = 1;
  topology = nodes_beside;
  events = event.Advance 0 ∷ event.Deliver 0 ∷ event.Deliver 2 ∷ event.Restart 1
      ∷ event.Restart 3 ∷ event.Advance 0 ∷ event.Host 2 (target.Node 5) (104 ∷ 101 ∷ 108 ∷ 108 ∷ 111 ∷ []) ∷ event.Deliver 4 ∷ [];
}

pub port_is_others-view : native_packet lab_beside three_beside 1 (play some_words port_is_others 11 []) ≡ Some (record {
  before = record new_behind_cone { reached = comes_to 1 (ep (ip 10 0 0 3) 4001) };
  node = Some 2;
  input = Some (given from_cone_x);
  delivered = Some 4 ∷ [];
  left = [];
  faults = false;
  fates = fate.Mismatch ∷ [];
  late = [] ∷ [];
})
unfolding playing
port_is_others-view = refl

pub port_is_others-fails : (q : Full) → slice_get (play some_words port_is_others 11 []) 1 ≡ Some q
    → GetsToNative (drop 2 (play some_words port_is_others 11 [])) q 2 5 from_cone_x (take 1 (play some_words port_is_others 11 [])) (most_to_native a_own_cone) → ⊥
port_is_others-fails = not_brought lab_beside three_beside 1 (play some_words port_is_others 11 []) _ port_is_others-view refl refl from_cone_x from_cone-does

-- the client has just tested the host, in vain: so it keeps the packet, and sends no further test
abbrev pub host_tested : Scenario
host_tested = after_qualifying (event.Host 2 (target.Node 4) (119 ∷ []) ∷ to_h ∷ [])

pub host_tested-view : native_packet (lab kind.Port) to_port_three 0 (play some_words host_tested 13 []) ≡ Some (record {
  before = record new_behind_port { host_listed = true; listed_are = 1 };
  node = Some 2;
  input = Some (given from_port_x);
  delivered = [];
  left = [];
  faults = false;
  fates = [];
  late = [];
})
unfolding playing
host_tested-view = refl

pub host_tested-fails : (q : Full) → slice_get (play some_words host_tested 13 []) 0 ≡ Some q
    → GetsToNative (drop 1 (play some_words host_tested 13 [])) q 2 4 from_port_x (take 0 (play some_words host_tested 13 [])) (most_to_native a_own) → ⊥
host_tested-fails = not_brought (lab kind.Port) to_port_three 0 (play some_words host_tested 13 []) _ host_tested-view refl refl from_port_x from_port-does

-- the client knows the host from before, and the relay has just started anew: so it sends to the relay, which doesn't list it
abbrev pub relay_anew : Scenario
relay_anew = after_cone_qualifying (to_h ∷ event.Deliver 2 ∷ event.Deliver 3 ∷ event.Deliver 4 ∷ event.Deliver 5 ∷ event.Deliver 6 ∷ event.Deliver 7 ∷ event.Restart 3 ∷ to_h ∷ event.Deliver 8 ∷ [])

pub relay_anew-view : native_packet (lab kind.Cone) to_cone_three 1 (play some_words relay_anew 14 []) ≡ Some (record {
  before = record new_behind_cone { host_listed = true; listed_are = 1 };
  node = Some 2;
  input = Some (given from_cone_x);
  delivered = Some 8 ∷ [];
  left = [];
  faults = false;
  fates = fate.Unlisted ∷ [];
  late = [] ∷ [];
})
unfolding playing
relay_anew-view = refl

pub relay_anew-fails : (q : Full) → slice_get (play some_words relay_anew 14 []) 1 ≡ Some q
    → GetsToNative (drop 2 (play some_words relay_anew 14 [])) q 2 4 from_cone_x (take 1 (play some_words relay_anew 14 [])) (most_to_native a_own_cone) → ⊥
relay_anew-fails = not_brought (lab kind.Cone) to_cone_three 1 (play some_words relay_anew 14 []) _ relay_anew-view refl refl from_cone_x from_cone-does

-- the relay has just asked for the client, in vain: the answer to the test waits there behind another packet
abbrev pub client_asked_for : Scenario
client_asked_for = after_qualifying (to_a ∷ event.Deliver 7 ∷ to_h ∷ event.Deliver 9 ∷ event.Deliver 10 ∷ event.Deliver 11 ∷ [])

pub client_asked_for-view : native_packet (lab kind.Port) to_port_three 3 (play some_words client_asked_for 17 []) ≡ Some (record {
  before = record new_behind_port { client_listed = true };
  node = Some 2;
  input = Some (given from_port_x);
  delivered = Some 11 ∷ Some 10 ∷ Some 9 ∷ [];
  left = [];
  faults = false;
  fates = fate.Queued ∷ fate.Echoed ∷ fate.Six ∷ [];
  late = [] ∷ [] ∷ [] ∷ [];
})
unfolding playing
client_asked_for-view = refl

pub client_asked_for-fails : (q : Full) → slice_get (play some_words client_asked_for 17 []) 3 ≡ Some q
    → GetsToNative (drop 4 (play some_words client_asked_for 17 [])) q 2 4 from_port_x (take 3 (play some_words client_asked_for 17 [])) (most_to_native a_own) → ⊥
client_asked_for-fails = not_brought (lab kind.Port) to_port_three 3 (play some_words client_asked_for 17 []) _ client_asked_for-view refl refl from_port_x from_port-does

-- the relay knows the client from before, and the NAT has started anew, as the client has: the answer is shut out, since the client has sent
-- the relay nothing since
abbrev pub nat_forgot_relay : Scenario
nat_forgot_relay = after_qualifying (to_h ∷ event.Deliver 7 ∷ event.Deliver 8 ∷ event.Deliver 9 ∷ event.Deliver 10 ∷ event.Deliver 11
    ∷ event.Deliver 12 ∷ event.Deliver 13 ∷ event.Deliver 14 ∷ event.Deliver 15 ∷ event.Restart 1 ∷ event.Restart 2 ∷ event.Advance 12000
    ∷ event.Deliver 19 ∷ event.Deliver 20 ∷ event.Advance 0 ∷ event.Deliver 21 ∷ event.Deliver 22 ∷ to_h ∷ event.Deliver 23
    ∷ event.Deliver 24 ∷ event.Deliver 25 ∷ event.Deliver 26 ∷ [])

pub nat_forgot_relay-view : native_packet (lab kind.Port) to_port_three 4 (play some_words nat_forgot_relay 39 []) ≡ Some (record {
  before = record new_behind_port { client_listed = true };
  node = Some 2;
  input = Some (given from_port_x);
  delivered = Some 26 ∷ Some 25 ∷ Some 24 ∷ Some 23 ∷ [];
  left = [];
  faults = false;
  fates = fate.NatClosed ∷ fate.Sent ∷ fate.Echoed ∷ fate.Six ∷ [];
  late = [] ∷ [] ∷ [] ∷ [] ∷ [];
})
unfolding playing
nat_forgot_relay-view = refl

pub nat_forgot_relay-fails : (q : Full) → slice_get (play some_words nat_forgot_relay 39 []) 4 ≡ Some q
    → GetsToNative (drop 5 (play some_words nat_forgot_relay 39 [])) q 2 4 from_port_x (take 4 (play some_words nat_forgot_relay 39 [])) (most_to_native a_own) → ⊥
nat_forgot_relay-fails = not_brought (lab kind.Port) to_port_three 4 (play some_words nat_forgot_relay 39 []) _ nat_forgot_relay-view refl refl from_port_x from_port-does

-- the client has just sent to the relay's own address: so it is barred from answering the relay's bubble
abbrev pub relay_tested : Scenario
relay_tested = after_qualifying (to_r ∷ to_h ∷ event.Deliver 8 ∷ event.Deliver 9 ∷ event.Deliver 10 ∷ event.Deliver 11 ∷ event.Deliver 12 ∷ [])

pub relay_tested-view : native_packet (lab kind.Port) to_port_three 5 (play some_words relay_tested 18 []) ≡ Some (record {
  before = record new_behind_port { relay_listed = true; listed_are = 1 };
  node = Some 2;
  input = Some (given from_port_x);
  delivered = Some 12 ∷ Some 11 ∷ Some 10 ∷ Some 9 ∷ Some 8 ∷ [];
  left = [];
  faults = false;
  fates = fate.Barred ∷ fate.ForwardOrigin ∷ fate.Queued ∷ fate.Echoed ∷ fate.Six ∷ [];
  late = [] ∷ [] ∷ [] ∷ [] ∷ [] ∷ [];
})
unfolding playing
relay_tested-view = refl

pub relay_tested-fails : (q : Full) → slice_get (play some_words relay_tested 18 []) 5 ≡ Some q
    → GetsToNative (drop 6 (play some_words relay_tested 18 [])) q 2 4 from_port_x (take 5 (play some_words relay_tested 18 [])) (most_to_native a_own) → ⊥
relay_tested-fails = not_brought (lab kind.Port) to_port_three 5 (play some_words relay_tested 18 []) _ relay_tested-view refl refl from_port_x from_port-does

-- WHAT IS SENT

abbrev pub bubble_x : List ℕ
bubble_x = 96 ∷ 0 ∷ 0 ∷ 0 ∷ 0 ∷ 0 ∷ 59 ∷ 64 ∷ 32 ∷ 1 ∷ 0 ∷ 0 ∷ 192 ∷ 0 ∷ 2 ∷ 1 ∷ 0 ∷ 0 ∷ 251 ∷ 255 ∷ 57 ∷ 204 ∷ 155 ∷ 254 ∷ 32 ∷ 1 ∷ 13 ∷ 184 ∷ 0 ∷ 0 ∷ 0 ∷ 0 ∷ 0 ∷ 0 ∷ 0 ∷ 0 ∷ 0 ∷ 0 ∷ 0 ∷ 1 ∷ []

pub bubble-does : (native_in bubble_x).fate ≡ fate.Kept
unfolding playing
bubble-does = refl

-- the packet is a bubble: the client sends none of its host's
abbrev pub bubble_sent : Scenario
bubble_sent = after_qualifying (event.Raw 2 bubble_x ∷ [])

pub bubble_sent-view : native_packet (lab kind.Port) to_port_three 0 (play some_words bubble_sent 12 []) ≡ Some (record {
  before = new_behind_port;
  node = Some 2;
  input = Some (given bubble_x);
  delivered = [];
  left = [];
  faults = false;
  fates = [];
  late = [];
})
unfolding playing
bubble_sent-view = refl

pub bubble_sent-fails : (q : Full) → slice_get (play some_words bubble_sent 12 []) 0 ≡ Some q
    → GetsToNative (drop 1 (play some_words bubble_sent 12 [])) q 2 4 bubble_x (take 0 (play some_words bubble_sent 12 [])) (most_to_native a_own) → ⊥
bubble_sent-fails = not_brought (lab kind.Port) to_port_three 0 (play some_words bubble_sent 12 []) _ bubble_sent-view refl refl bubble_x bubble-does

-- WHAT HAPPENS THEN

-- the test fails
abbrev pub test_fails : Scenario
test_fails = after_qualifying (event.Fault 0 ∷ to_h ∷ [])

pub test_fails-view : native_packet (lab kind.Port) to_port_three 0 (play some_words test_fails 13 []) ≡ Some (record {
  before = new_behind_port;
  node = Some 2;
  input = Some (given from_port_x);
  delivered = [];
  left = [];
  faults = true;
  fates = [];
  late = [];
})
unfolding playing
test_fails-view = refl

pub test_fails-fails : (q : Full) → slice_get (play some_words test_fails 13 []) 0 ≡ Some q
    → GetsToNative (drop 1 (play some_words test_fails 13 [])) q 2 4 from_port_x (take 0 (play some_words test_fails 13 [])) (most_to_native a_own) → ⊥
test_fails-fails = not_brought (lab kind.Port) to_port_three 0 (play some_words test_fails 13 []) _ test_fails-view refl refl from_port_x from_port-does

-- the answer to the test is lost: the schedule isn't complete
abbrev pub answer_lost : Scenario
answer_lost = after_qualifying (to_h ∷ event.Deliver 7 ∷ event.Deliver 8 ∷ [])

pub answer_lost-view : native_packet (lab kind.Port) to_port_three 2 (play some_words answer_lost 14 []) ≡ Some (record {
  before = new_behind_port;
  node = Some 2;
  input = Some (given from_port_x);
  delivered = Some 8 ∷ Some 7 ∷ [];
  left = 9 ∷ [];
  faults = false;
  fates = fate.Echoed ∷ fate.Six ∷ [];
  late = [] ∷ [] ∷ [];
})
unfolding playing
answer_lost-view = refl

pub answer_lost-fails : (q : Full) → slice_get (play some_words answer_lost 14 []) 2 ≡ Some q
    → HasComeToNative 4 from_port_x (take 2 (play some_words answer_lost 14 [])) → ⊥
answer_lost-fails = not_there (lab kind.Port) to_port_three 2 (play some_words answer_lost 14 []) _ answer_lost-view refl from_port_x from_port-does

-- a datagram's bytes
abbrev bytes_in : Option Item → List ℕ
bytes_in (Some (udp from to bytes)) = bytes
bytes_in _ = []

-- the test that the client of a cone NAT makes of the host, as the wire has it
abbrev pub tested : Scenario
tested = record { seed = 1; topology = nodes kind.Cone; events = event.Advance 0 ∷ event.Deliver 0 ∷ event.Deliver 1 ∷ to_h ∷ [] }

abbrev pub the_test : List ℕ
the_test = bytes_in (slice_get (wire (play some_words tested 5 [])) 2)

-- what the host itself would answer
abbrev pub the_answer : List ℕ
the_answer = unwrap_or (native_in the_test).packet []

-- somebody has read the test, and answers it before it is delivered: the client trusts the host where the answer came from, and its
-- packet goes there, to nobody
abbrev pub test_answered : Scenario
test_answered = record tested {
  events = event.Advance 0 ∷ event.Deliver 0 ∷ event.Deliver 1 ∷ to_h ∷ event.Stranger (ep (ip 203 0 113 66) 4000) (ep (ip 198 51 100 1) 1024) the_answer ∷ event.Deliver 3 ∷ event.Deliver 4 ∷ [];
}

pub test_answered-view : native_packet (lab kind.Cone) to_cone_three 3 (play some_words test_answered 8 []) ≡ Some (record {
  before = new_behind_cone;
  node = Some 2;
  input = Some (given from_cone_x);
  delivered = Some 4 ∷ Some 3 ∷ None ∷ [];
  left = 2 ∷ [];
  faults = false;
  fates = fate.Nowhere ∷ fate.Rule2 ∷ fate.Put ∷ [];
  late = [] ∷ [] ∷ [] ∷ [];
})
unfolding playing
test_answered-view = refl

pub test_answered-fails : (q : Full) → slice_get (play some_words test_answered 8 []) 3 ≡ Some q
    → HasComeToNative 4 from_cone_x (take 3 (play some_words test_answered 8 [])) → ⊥
test_answered-fails = not_there (lab kind.Cone) to_cone_three 3 (play some_words test_answered 8 []) _ test_answered-view refl from_cone_x from_cone-does

-- 8 seconds pass before the deliveries: the client tests three times more, and gives up. The answers find no packet
abbrev pub waited : Scenario
waited = after_qualifying (to_h ∷ event.Advance 8000 ∷ event.Deliver 7 ∷ event.Deliver 8 ∷ event.Deliver 9 ∷ event.Deliver 10
    ∷ event.Deliver 11 ∷ event.Deliver 12 ∷ event.Deliver 13 ∷ event.Deliver 14 ∷ event.Deliver 15 ∷ event.Deliver 16 ∷ event.Deliver 17
    ∷ event.Deliver 18 ∷ event.Deliver 19 ∷ event.Deliver 20 ∷ event.Deliver 21 ∷ event.Deliver 22 ∷ event.Deliver 23 ∷ event.Deliver 24
    ∷ event.Deliver 25 ∷ [])

pub waited-view : native_packet (lab kind.Port) to_port_three 24 (play some_words waited 36 []) ≡ Some (record {
  before = new_behind_port;
  node = Some 2;
  input = Some (given from_port_x);
  delivered = Some 25 ∷ Some 24 ∷ Some 23 ∷ Some 22 ∷ Some 21 ∷ Some 20 ∷ Some 19 ∷ Some 18 ∷ Some 17 ∷ Some 16 ∷ Some 15 ∷ Some 14 ∷ Some 13 ∷ Some 12 ∷ Some 11 ∷ Some 10 ∷ Some 9 ∷ Some 8 ∷ Some 7 ∷ None ∷ None ∷ None ∷ None ∷ None ∷ [];
  left = [];
  faults = false;
  fates = fate.Rule2 ∷ fate.Suspicious ∷ fate.Suspicious ∷ fate.Suspicious ∷ fate.FromClientBubble ∷ fate.Indirect ∷ fate.ForwardOrigin
      ∷ fate.Queued ∷ fate.Queued ∷ fate.Queued ∷ fate.Queued ∷ fate.Echoed ∷ fate.Echoed ∷ fate.Echoed ∷ fate.Echoed ∷ fate.Six ∷ fate.Six
      ∷ fate.Six ∷ fate.Six ∷ fate.Done ∷ fate.GiveUp ∷ fate.Test ∷ fate.Test ∷ fate.Test ∷ [];
  late = [] ∷ [] ∷ [] ∷ [] ∷ [] ∷ [] ∷ [] ∷ [] ∷ [] ∷ [] ∷ [] ∷ [] ∷ [] ∷ [] ∷ [] ∷ [] ∷ [] ∷ [] ∷ [] ∷ [] ∷ [] ∷ [] ∷ [] ∷ [] ∷ [];
})
unfolding playing
waited-view = refl

pub waited-fails : (q : Full) → slice_get (play some_words waited 36 []) 24 ≡ Some q
    → GetsToNative (drop 25 (play some_words waited 36 [])) q 2 4 from_port_x (take 24 (play some_words waited 36 [])) (most_to_native a_own) → ⊥
waited-fails = not_brought (lab kind.Port) to_port_three 24 (play some_words waited 36 []) _ waited-view refl refl from_port_x from_port-does

-- the relay starts anew while the answer waits there
abbrev pub relay_anew_meanwhile : Scenario
relay_anew_meanwhile = after_qualifying (to_h ∷ event.Deliver 7 ∷ event.Deliver 8 ∷ event.Deliver 9 ∷ event.Restart 3 ∷ event.Deliver 10 ∷ event.Deliver 11 ∷ event.Deliver 12 ∷ [])

pub relay_anew_meanwhile-view : native_packet (lab kind.Port) to_port_three 7 (play some_words relay_anew_meanwhile 19 []) ≡ Some (record {
  before = new_behind_port;
  node = Some 2;
  input = Some (given from_port_x);
  delivered = Some 12 ∷ Some 11 ∷ Some 10 ∷ None ∷ Some 9 ∷ Some 8 ∷ Some 7 ∷ [];
  left = [];
  faults = false;
  fates = fate.Unlisted ∷ fate.Indirect ∷ fate.ForwardOrigin ∷ fate.Done ∷ fate.Queued ∷ fate.Echoed ∷ fate.Six ∷ [];
  late = [] ∷ [] ∷ [] ∷ [] ∷ [] ∷ [] ∷ [] ∷ [];
})
unfolding playing
relay_anew_meanwhile-view = refl

pub relay_anew_meanwhile-fails : (q : Full) → slice_get (play some_words relay_anew_meanwhile 19 []) 7 ≡ Some q
    → GetsToNative (drop 8 (play some_words relay_anew_meanwhile 19 [])) q 2 4 from_port_x (take 7 (play some_words relay_anew_meanwhile 19 [])) (most_to_native a_own) → ⊥
relay_anew_meanwhile-fails = not_brought (lab kind.Port) to_port_three 7 (play some_words relay_anew_meanwhile 19 []) _ relay_anew_meanwhile-view refl refl from_port_x from_port-does
