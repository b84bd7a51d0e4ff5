-- The first packet of a client to a native host comes there: with the ninth delivery where the client is behind a port restricted NAT,
-- with the sixth behind a cone NAT; and the answer to an echo request is handed over two deliveries later. All that the theorem wants is
-- met in each.
use Rattle.worked_facts.proofs.Words.{Full, GoesBetween, HasAnswered, HasComeToNative, IsFirstToNative, List, None, Scenario, Some, [], arith, arrived, drop, ep, false, false≢true, from_six, given, ip, native_in, play, playing, refl, slice_get, some_words, sym, take, ℕ, ◌∙◌, ◌∷◌, ◌≡◌}
use Rattle.nat_kinds.specs.declared.kind.NatKind.TheVariants as kind
use Rattle.teredo_node.specs.declared.fate.Fate.TheVariants as fate
use Rattle.events.specs.declared.event.Event.TheVariants as event
use Rattle.events.specs.declared.target.Target.TheVariants as target
use Rattle.worked_facts.proofs.NativeNodes.{host_six, a_own, a_own_cone, client_row, relay_row, host_row, lab, to_h, after_qualifying, after_cone_qualifying}
use Rattle.worked_facts.proofs.NativeViews.{native_packet, is_first_to}
use Rattle.worked_facts.proofs.ToNativeViews.{arrival, has_come, has_answered}
use Rattle.worked_facts.proofs.NativeFacts.{plain, to_port_three, to_port-there, to_cone_three, to_cone-there, new_behind_port, new_behind_cone}

-- NINE DELIVERIES

-- the test's answer waits at the relay, which asks for a bubble; then the packet that waited goes out by the relay
abbrev pub from_port : Scenario
from_port = after_qualifying (to_h ∷ event.Deliver 7 ∷ event.Deliver 8 ∷ event.Deliver 9 ∷ event.Deliver 10 ∷ event.Deliver 11 ∷ event.Deliver 12 ∷ event.Deliver 13 ∷ event.Deliver 14 ∷ event.Deliver 15 ∷ [])

abbrev pub from_port_x : List ℕ
from_port_x = 96 ∷ 0 ∷ 0 ∷ 0 ∷ 0 ∷ 5 ∷ 253 ∷ 64 ∷ 32 ∷ 1 ∷ 0 ∷ 0 ∷ 192 ∷ 0 ∷ 2 ∷ 1 ∷ 0 ∷ 0 ∷ 251 ∷ 255 ∷ 57 ∷ 204 ∷ 155 ∷ 254 ∷ 32 ∷ 1 ∷ 13 ∷ 184 ∷ 0 ∷ 0 ∷ 0 ∷ 0 ∷ 0 ∷ 0 ∷ 0 ∷ 0 ∷ 0 ∷ 0 ∷ 0 ∷ 1 ∷ 104 ∷ 101 ∷ 108 ∷ 108 ∷ 111 ∷ []

pub from_port-view : native_packet (lab kind.Port) to_port_three 9 (play some_words from_port 21 []) ≡ Some (record {
  before = new_behind_port;
  node = Some 2;
  input = Some (given from_port_x);
  delivered = Some 15 ∷ Some 14 ∷ Some 13 ∷ Some 12 ∷ Some 11 ∷ Some 10 ∷ Some 9 ∷ Some 8 ∷ Some 7 ∷ [];
  left = [];
  faults = false;
  fates = fate.Kept ∷ fate.FromClient ∷ fate.Rule2 ∷ fate.FromClientBubble ∷ fate.Indirect ∷ fate.ForwardOrigin ∷ fate.Queued ∷ fate.Echoed ∷ fate.Six ∷ [];
  late = [] ∷ [] ∷ [] ∷ [] ∷ [] ∷ [] ∷ [] ∷ [] ∷ [] ∷ [];
})
unfolding playing
from_port-view = refl

pub from_port-goes : GoesBetween a_own host_six from_port_x
unfolding playing
from_port-goes = record { packet = refl; short = omega arith; no_bubble = refl; source = refl; destination = refl }

-- so all that the theorem wants of the three and of the packet is met
pub from_port-is-first : (q : Full) → slice_get (play some_words from_port 21 []) 9 ≡ Some q
    → IsFirstToNative (lab kind.Port) (drop 10 (play some_words from_port 21 [])) q 2 4 3 client_row host_row relay_row a_own from_port_x
from_port-is-first = is_first_to (lab kind.Port) to_port_three to_port-there 9 (play some_words from_port 21 []) _ from_port-view from_port_x
    (record {
      address = refl;
      kinds = refl;
      cone = λ bit. absurd (false≢true (sym plain ∙ bit));
      reached = refl;
      host_unlisted = refl;
      host_room = refl;
      relay_unlisted = refl;
      room_for_two = omega arith;
      client_unlisted = refl;
      client_room = refl;
    })
    (record { node = refl; input = refl; packet = from_port-goes })

-- what the native host does with such a packet, and where it was given it
pub from_port-does : (native_in from_port_x).fate ≡ fate.Kept
unfolding playing
from_port-does = refl

pub from_port-arrival : arrival 0 (play some_words from_port 21 []) ≡ Some (record { node = Some 4; input = Some (from_six from_port_x); fate = fate.Kept; handed = None })
unfolding playing
from_port-arrival = refl

-- so the last of the deliveries brings it there
pub from_port-comes : HasComeToNative 4 from_port_x (take 9 (play some_words from_port 21 []))
from_port-comes = has_come 4 from_port_x _ (record { node = refl; input = refl; fate = sym from_port-does }) 9 0 (omega arith) (play some_words from_port 21 []) from_port-arrival

-- SIX

-- the relay needs no bubble
abbrev pub from_cone : Scenario
from_cone = after_cone_qualifying (to_h ∷ event.Deliver 2 ∷ event.Deliver 3 ∷ event.Deliver 4 ∷ event.Deliver 5 ∷ event.Deliver 6 ∷ event.Deliver 7 ∷ [])

abbrev pub from_cone_x : List ℕ
from_cone_x = 96 ∷ 0 ∷ 0 ∷ 0 ∷ 0 ∷ 5 ∷ 253 ∷ 64 ∷ 32 ∷ 1 ∷ 0 ∷ 0 ∷ 192 ∷ 0 ∷ 2 ∷ 1 ∷ 128 ∷ 0 ∷ 251 ∷ 255 ∷ 57 ∷ 204 ∷ 155 ∷ 254 ∷ 32 ∷ 1 ∷ 13 ∷ 184 ∷ 0 ∷ 0 ∷ 0 ∷ 0 ∷ 0 ∷ 0 ∷ 0 ∷ 0 ∷ 0 ∷ 0 ∷ 0 ∷ 1 ∷ 104 ∷ 101 ∷ 108 ∷ 108 ∷ 111 ∷ []

pub from_cone-view : native_packet (lab kind.Cone) to_cone_three 6 (play some_words from_cone 11 []) ≡ Some (record {
  before = new_behind_cone;
  node = Some 2;
  input = Some (given from_cone_x);
  delivered = Some 7 ∷ Some 6 ∷ Some 5 ∷ Some 4 ∷ Some 3 ∷ Some 2 ∷ [];
  left = [];
  faults = false;
  fates = fate.Kept ∷ fate.FromClient ∷ fate.Rule2 ∷ fate.SentCone ∷ fate.Echoed ∷ fate.Six ∷ [];
  late = [] ∷ [] ∷ [] ∷ [] ∷ [] ∷ [] ∷ [];
})
unfolding playing
from_cone-view = refl

pub from_cone-goes : GoesBetween a_own_cone host_six from_cone_x
unfolding playing
from_cone-goes = record { packet = refl; short = omega arith; no_bubble = refl; source = refl; destination = refl }

-- so all that the theorem wants of the three and of the packet is met
pub from_cone-is-first : (q : Full) → slice_get (play some_words from_cone 11 []) 6 ≡ Some q
    → IsFirstToNative (lab kind.Cone) (drop 7 (play some_words from_cone 11 [])) q 2 4 3 client_row host_row relay_row a_own_cone from_cone_x
from_cone-is-first = is_first_to (lab kind.Cone) to_cone_three to_cone-there 6 (play some_words from_cone 11 []) _ from_cone-view from_cone_x
    (record { address = refl; kinds = refl; cone = λ bit. refl; reached = refl; host_unlisted = refl; host_room = refl; relay_unlisted = refl; room_for_two = omega arith; client_unlisted = refl; client_room = refl })
    (record { node = refl; input = refl; packet = from_cone-goes })

-- what the native host does with such a packet, and where it was given it
pub from_cone-does : (native_in from_cone_x).fate ≡ fate.Kept
unfolding playing
from_cone-does = refl

pub from_cone-arrival : arrival 0 (play some_words from_cone 11 []) ≡ Some (record { node = Some 4; input = Some (from_six from_cone_x); fate = fate.Kept; handed = None })
unfolding playing
from_cone-arrival = refl

-- so the last of the deliveries brings it there
pub from_cone-comes : HasComeToNative 4 from_cone_x (take 6 (play some_words from_cone 11 []))
from_cone-comes = has_come 4 from_cone_x _ (record { node = refl; input = refl; fate = sym from_cone-does }) 6 0 (omega arith) (play some_words from_cone 11 []) from_cone-arrival

-- NINE, AND TWO MORE OF THE ANSWER

-- the native host answers the echo request by itself, through the relay
abbrev pub from_port_asking : Scenario
from_port_asking = after_qualifying (event.Echo 2 (target.Node 4) 7 ∷ event.Deliver 7 ∷ event.Deliver 8 ∷ event.Deliver 9 ∷ event.Deliver 10
    ∷ event.Deliver 11 ∷ event.Deliver 12 ∷ event.Deliver 13 ∷ event.Deliver 14 ∷ event.Deliver 15 ∷ event.Deliver 16 ∷ event.Deliver 17 ∷ [])

abbrev pub from_port_asking_x : List ℕ
from_port_asking_x = 96 ∷ 0 ∷ 0 ∷ 0 ∷ 0 ∷ 8 ∷ 58 ∷ 64 ∷ 32 ∷ 1 ∷ 0 ∷ 0 ∷ 192 ∷ 0 ∷ 2 ∷ 1 ∷ 0 ∷ 0 ∷ 251 ∷ 255 ∷ 57 ∷ 204 ∷ 155 ∷ 254 ∷ 32 ∷ 1
    ∷ 13 ∷ 184 ∷ 0 ∷ 0 ∷ 0 ∷ 0 ∷ 0 ∷ 0 ∷ 0 ∷ 0 ∷ 0 ∷ 0 ∷ 0 ∷ 1 ∷ 128 ∷ 0 ∷ 158 ∷ 45 ∷ 0 ∷ 1 ∷ 0 ∷ 7 ∷ []

pub from_port_asking-view : native_packet (lab kind.Port) to_port_three 11 (play some_words from_port_asking 23 []) ≡ Some (record {
  before = new_behind_port;
  node = Some 2;
  input = Some (given from_port_asking_x);
  delivered = Some 17 ∷ Some 16 ∷ Some 15 ∷ Some 14 ∷ Some 13 ∷ Some 12 ∷ Some 11 ∷ Some 10 ∷ Some 9 ∷ Some 8 ∷ Some 7 ∷ [];
  left = [];
  faults = false;
  fates = fate.Rule1 ∷ fate.Sent ∷ fate.Echoed ∷ fate.FromClient ∷ fate.Rule2 ∷ fate.FromClientBubble ∷ fate.Indirect ∷ fate.ForwardOrigin ∷ fate.Queued ∷ fate.Echoed ∷ fate.Six ∷ [];
  late = [] ∷ [] ∷ [] ∷ [] ∷ [] ∷ [] ∷ [] ∷ [] ∷ [] ∷ [] ∷ [] ∷ [];
})
unfolding playing
from_port_asking-view = refl

pub from_port_asking-goes : GoesBetween a_own host_six from_port_asking_x
unfolding playing
from_port_asking-goes = record { packet = refl; short = omega arith; no_bubble = refl; source = refl; destination = refl }

-- so all that the theorem wants of the three and of the packet is met
pub from_port_asking-is-first : (q : Full) → slice_get (play some_words from_port_asking 23 []) 11 ≡ Some q
    → IsFirstToNative (lab kind.Port) (drop 12 (play some_words from_port_asking 23 [])) q 2 4 3 client_row host_row relay_row a_own from_port_asking_x
from_port_asking-is-first = is_first_to (lab kind.Port) to_port_three to_port-there 11 (play some_words from_port_asking 23 []) _ from_port_asking-view from_port_asking_x
    (record {
      address = refl;
      kinds = refl;
      cone = λ bit. absurd (false≢true (sym plain ∙ bit));
      reached = refl;
      host_unlisted = refl;
      host_room = refl;
      relay_unlisted = refl;
      room_for_two = omega arith;
      client_unlisted = refl;
      client_room = refl;
    })
    (record { node = refl; input = refl; packet = from_port_asking-goes })

-- what the native host does with such a packet, and where it was given it
pub from_port_asking-does : (native_in from_port_asking_x).fate ≡ fate.Echoed
unfolding playing
from_port_asking-does = refl

pub from_port_asking-arrival : arrival 2 (play some_words from_port_asking 23 []) ≡ Some (record { node = Some 4; input = Some (from_six from_port_asking_x); fate = fate.Echoed; handed = None })
unfolding playing
from_port_asking-arrival = refl

-- so the last but two of the deliveries brings it there
pub from_port_asking-comes : HasComeToNative 4 from_port_asking_x (take 11 (play some_words from_port_asking 23 []))
from_port_asking-comes = has_come 4 from_port_asking_x _ (record { node = refl; input = refl; fate = sym from_port_asking-does }) 11 2 (omega arith) (play some_words from_port_asking 23 []) from_port_asking-arrival

abbrev pub from_port_asking_y : List ℕ
from_port_asking_y = 96 ∷ 0 ∷ 0 ∷ 0 ∷ 0 ∷ 8 ∷ 58 ∷ 64 ∷ 32 ∷ 1 ∷ 13 ∷ 184 ∷ 0 ∷ 0 ∷ 0 ∷ 0 ∷ 0 ∷ 0 ∷ 0 ∷ 0 ∷ 0 ∷ 0 ∷ 0 ∷ 1 ∷ 32 ∷ 1 ∷ 0 ∷ 0
    ∷ 192 ∷ 0 ∷ 2 ∷ 1 ∷ 0 ∷ 0 ∷ 251 ∷ 255 ∷ 57 ∷ 204 ∷ 155 ∷ 254 ∷ 129 ∷ 0 ∷ 157 ∷ 45 ∷ 0 ∷ 1 ∷ 0 ∷ 7 ∷ []

-- its answer, which the client's host is handed
pub from_port_asking-answer : (native_in from_port_asking_x).packet ≡ Some from_port_asking_y
unfolding playing
from_port_asking-answer = refl

pub from_port_asking-handed : arrival 0 (play some_words from_port_asking 23 []) ≡ Some (record { node = Some 2; input = Some (arrived (ep (ip 203 0 113 9) 3545) from_port_asking_y); fate = fate.Rule1; handed = Some from_port_asking_y })
unfolding playing
from_port_asking-handed = refl

pub from_port_asking-answered : HasAnswered 2 from_port_asking_y (take 11 (play some_words from_port_asking 23 []))
from_port_asking-answered = has_answered 2 from_port_asking_y _ (record { node = refl; handed = refl; rule = refl }) 10 (play some_words from_port_asking 23 []) from_port_asking-handed
