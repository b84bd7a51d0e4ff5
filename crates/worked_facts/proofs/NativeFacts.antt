-- The first packet of a native host arrives: after nine deliveries at a client behind a port restricted NAT, after six at one
-- behind a cone NAT. All that the theorem wants is met in both.
use Rattle.worked_facts.proofs.Words.{Full, GoesBetween, IsFirstFromNative, List, Scenario, Some, [], arith, comes_to, drop, ep, false, false≢true, fields_in, flags_in, given, has_cone, ip, is_echo_reply, message_in, play, playing, refl, slice_get, some_words, sym, true, ℕ, ◌∙◌, ◌∷◌, ◌≡◌}
use Rattle.nat_kinds.specs.declared.kind.NatKind.TheVariants as kind
use Rattle.teredo_node.specs.declared.fate.Fate.TheVariants as fate
use Rattle.events.specs.declared.event.Event.TheVariants as event
use Rattle.worked_facts.proofs.NativeNodes.{host_six, a_own, a_own_cone, nat_row, client_row, relay_row, host_row, lab, three, to_a, after_qualifying, after_cone_qualifying}
use Rattle.worked_facts.proofs.NativeViews.{Three, Acquaintance, native_packet, AreNodes, is_first}

-- the address without the cone bit
pub plain : has_cone a_own ≡ false
unfolding has_cone flags_in
plain = refl

-- a client that is settled behind a NAT of either kind: the host and the relay are new to it, as it is to the relay
abbrev pub new_behind_port : Acquaintance
new_behind_port = record {
  address = Some a_own;
  symmetric = false;
  all_cone = false;
  reached = comes_to 1 (ep (ip 10 0 0 2) 4000);
  host_listed = false;
  host_room = true;
  relay_listed = false;
  listed_are = 0;
  client_listed = false;
  client_room = true;
}

abbrev pub new_behind_cone : Acquaintance
new_behind_cone = record new_behind_port { address = Some a_own_cone; all_cone = true }

-- NINE DELIVERIES

-- the relay asks for a bubble, and the client holds the packet until its test is answered
abbrev pub to_port : Scenario
to_port = after_qualifying (to_a ∷ event.Deliver 7 ∷ event.Deliver 8 ∷ event.Deliver 9 ∷ event.Deliver 10 ∷ event.Deliver 11 ∷ event.Deliver 12 ∷ event.Deliver 13 ∷ event.Deliver 14 ∷ event.Deliver 15 ∷ [])

abbrev pub to_port_three : Three
to_port_three = three a_own

abbrev pub to_port_x : List ℕ
to_port_x = 96 ∷ 0 ∷ 0 ∷ 0 ∷ 0 ∷ 5 ∷ 253 ∷ 64 ∷ 32 ∷ 1 ∷ 13 ∷ 184 ∷ 0 ∷ 0 ∷ 0 ∷ 0 ∷ 0 ∷ 0 ∷ 0 ∷ 0 ∷ 0 ∷ 0 ∷ 0 ∷ 1 ∷ 32 ∷ 1 ∷ 0 ∷ 0 ∷ 192 ∷ 0 ∷ 2 ∷ 1 ∷ 0 ∷ 0 ∷ 251 ∷ 255 ∷ 57 ∷ 204 ∷ 155 ∷ 254 ∷ 104 ∷ 101 ∷ 108 ∷ 108 ∷ 111 ∷ []

pub to_port-view : native_packet (lab kind.Port) to_port_three 9 (play some_words to_port 21 []) ≡ Some (record {
  before = new_behind_port;
  node = Some 4;
  input = Some (given to_port_x);
  delivered = Some 15 ∷ Some 14 ∷ Some 13 ∷ Some 12 ∷ Some 11 ∷ Some 10 ∷ Some 9 ∷ Some 8 ∷ Some 7 ∷ [];
  left = [];
  faults = false;
  fates = fate.Rule2 ∷ fate.Sent ∷ fate.Echoed ∷ fate.Six ∷ fate.HeldTest ∷ fate.FromClientBubble ∷ fate.Indirect ∷ fate.ForwardOrigin ∷ fate.Queued ∷ [];
  late = (45 ∷ []) ∷ [] ∷ [] ∷ [] ∷ [] ∷ [] ∷ [] ∷ [] ∷ [] ∷ [];
})
unfolding playing
to_port-view = refl

pub to_port-goes : GoesBetween host_six a_own to_port_x
unfolding playing
to_port-goes = record { packet = refl; short = omega arith; no_bubble = refl; source = refl; destination = refl }

pub to_port-no-reply : is_echo_reply (message_in (fields_in to_port_x)) ≡ false
unfolding playing
to_port-no-reply = refl

pub to_port-there : AreNodes (lab kind.Port) to_port_three
unfolding playing
to_port-there = record { client = refl; host = refl; relay = refl; through = refl; row = nat_row kind.Port; there = refl; outside = refl; external = refl }

-- so all that the theorem wants of the three and of the packet is met
pub to_port-is-first : (q : Full) → slice_get (play some_words to_port 21 []) 9 ≡ Some q
    → IsFirstFromNative (lab kind.Port) (drop 10 (play some_words to_port 21 [])) q 2 4 3 (client_row) (host_row) (relay_row) a_own to_port_x
to_port-is-first = is_first (lab kind.Port) to_port_three to_port-there 9 (play some_words to_port 21 []) _ to_port-view to_port_x
    (record {
      address = refl;
      kinds = refl;
      cone = λ bit. absurd (false≢true (sym plain ∙ bit));
      reached = refl;
      host_unlisted = refl;
      host_room = refl;
      relay_unlisted = refl;
      room_for_two = omega arith;
      client_unlisted = refl;
      client_room = refl;
    })
    (record { node = refl; input = refl; packet = to_port-goes }) to_port-no-reply

-- SIX

-- the relay needs no bubble
abbrev pub to_cone : Scenario
to_cone = after_cone_qualifying (to_a ∷ event.Deliver 2 ∷ event.Deliver 3 ∷ event.Deliver 4 ∷ event.Deliver 5 ∷ event.Deliver 6 ∷ event.Deliver 7 ∷ [])

abbrev pub to_cone_three : Three
to_cone_three = three a_own_cone

abbrev pub to_cone_x : List ℕ
to_cone_x = 96 ∷ 0 ∷ 0 ∷ 0 ∷ 0 ∷ 5 ∷ 253 ∷ 64 ∷ 32 ∷ 1 ∷ 13 ∷ 184 ∷ 0 ∷ 0 ∷ 0 ∷ 0 ∷ 0 ∷ 0 ∷ 0 ∷ 0 ∷ 0 ∷ 0 ∷ 0 ∷ 1 ∷ 32 ∷ 1 ∷ 0 ∷ 0 ∷ 192 ∷ 0 ∷ 2 ∷ 1 ∷ 128 ∷ 0 ∷ 251 ∷ 255 ∷ 57 ∷ 204 ∷ 155 ∷ 254 ∷ 104 ∷ 101 ∷ 108 ∷ 108 ∷ 111 ∷ []

pub to_cone-view : native_packet (lab kind.Cone) to_cone_three 6 (play some_words to_cone 11 []) ≡ Some (record {
  before = new_behind_cone;
  node = Some 4;
  input = Some (given to_cone_x);
  delivered = Some 7 ∷ Some 6 ∷ Some 5 ∷ Some 4 ∷ Some 3 ∷ Some 2 ∷ [];
  left = [];
  faults = false;
  fates = fate.Rule2 ∷ fate.Sent ∷ fate.Echoed ∷ fate.Six ∷ fate.HeldTest ∷ fate.SentCone ∷ [];
  late = (45 ∷ []) ∷ [] ∷ [] ∷ [] ∷ [] ∷ [] ∷ [];
})
unfolding playing
to_cone-view = refl

pub to_cone-goes : GoesBetween host_six a_own_cone to_cone_x
unfolding playing
to_cone-goes = record { packet = refl; short = omega arith; no_bubble = refl; source = refl; destination = refl }

pub to_cone-no-reply : is_echo_reply (message_in (fields_in to_cone_x)) ≡ false
unfolding playing
to_cone-no-reply = refl

pub to_cone-there : AreNodes (lab kind.Cone) to_cone_three
unfolding playing
to_cone-there = record { client = refl; host = refl; relay = refl; through = refl; row = nat_row kind.Cone; there = refl; outside = refl; external = refl }

-- so all that the theorem wants of the three and of the packet is met
pub to_cone-is-first : (q : Full) → slice_get (play some_words to_cone 11 []) 6 ≡ Some q
    → IsFirstFromNative (lab kind.Cone) (drop 7 (play some_words to_cone 11 [])) q 2 4 3 (client_row) (host_row) (relay_row) a_own_cone to_cone_x
to_cone-is-first = is_first (lab kind.Cone) to_cone_three to_cone-there 6 (play some_words to_cone 11 []) _ to_cone-view to_cone_x
    (record { address = refl; kinds = refl; cone = λ bit. refl; reached = refl; host_unlisted = refl; host_room = refl; relay_unlisted = refl; room_for_two = omega arith; client_unlisted = refl; client_room = refl })
    (record { node = refl; input = refl; packet = to_cone-goes }) to_cone-no-reply
