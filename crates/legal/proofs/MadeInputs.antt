-- What nodes are given in a history that is made till now.
use Rattle.legal.proofs.Words.{ClientNode, DATAGRAM_MAX, Entry, Ep, Event, Full, HOST_HOP, Hands, Input, Ip6, IsActOf, IsBytes, IsClientNode, IsEvent, IsGiven, IsIp4, IsIp6, IsMadeClient, IsMadeInput, IsMadeItem, IsMadePacket, IsNativeNode, IsServerNode, IsTarget, IsTopology, Item, Lab, List, MessageFits, Node, None, Option, Some, Target, TopologyState, Verb, [], address_at, address_is, address_of, all_at, ap, arith, arrived, as_server, client, client_in, client_out, client_settings, client_tick, data_packet, delivered, each_node, echo_packet, echo_request, entry_of, false≢true, first_waits, flags_tell, from_six, given, input_of, is_some, journal, length, message_is_bytes, message_is_carried, message_packet, nat, native, no_bytes, node_at, one_entry, option_and_then, or_unspecified, own_address, packet_bytes, packet_is_bytes, packet_is_spelled, payload_is_spelled, primary_of, qualification, qualify_turns, refl, relay, relay_in, relay_six, relay_tick, secondary_of, server, server_at, six, subst, sym, target_address, teredo_tells, ticked, true, turns_at_start, udp, unspecified_is, wire, ℕ, ◌∙◌, ◌≡◌, ◌≤◌}
use Rattle.events.specs.declared.event.Event.TheVariants as event
use Rattle.events.specs.declared.target.Target.TheVariants as target
use Rattle.legal.specs.Actors.{hosted, ticks}
use Rattle.legal.proofs.Scenes.{Scene}

-- WHAT AN ENTRY WAS GIVEN

pub entry_input : (lab : Lab) (H : List Full) (m n : ℕ) (dst : Ep) (input : Input) (a : Node) → (entry_of lab H m n dst input a).input ≡ input
unfolding client_in client_out client_tick relay_in relay_six relay_tick
entry_input lab H m n dst (arrived from x) (server a) = refl
entry_input lab H m n dst (arrived from x) (nat a) = refl
entry_input lab H m n dst (arrived from x) (client a) = refl
entry_input lab H m n dst (arrived from x) (relay a) = refl
entry_input lab H m n dst (arrived from x) (native a) = refl
entry_input lab H m n dst (given x) (server a) = refl
entry_input lab H m n dst (given x) (nat a) = refl
entry_input lab H m n dst (given x) (client a) = refl
entry_input lab H m n dst (given x) (relay a) = refl
entry_input lab H m n dst (given x) (native a) = refl
entry_input lab H m n dst (from_six x) (server a) = refl
entry_input lab H m n dst (from_six x) (nat a) = refl
entry_input lab H m n dst (from_six x) (client a) = refl
entry_input lab H m n dst (from_six x) (relay a) = refl
entry_input lab H m n dst (from_six x) (native a) = refl
entry_input lab H m n dst ticked (server a) = refl
entry_input lab H m n dst ticked (nat a) = refl
entry_input lab H m n dst ticked (client a) = refl
entry_input lab H m n dst ticked (relay a) = refl
entry_input lab H m n dst ticked (native a) = refl

-- the bytes of an input
abbrev bytes_in : Input → List ℕ
bytes_in (arrived from x) = x
bytes_in (given x) = x
bytes_in (from_six x) = x
bytes_in ticked = []

-- made, and not too long
pub record IsShortInput (input : Input) : Type 0 where
  pub made : IsMadeInput input
  pub short : length (bytes_in input) ≤ DATAGRAM_MAX

input_made : (x : Item) → IsMadeItem x → IsShortInput (input_of x)
input_made (udp src dst bytes) h = record { made = (h.source, h.bytes); short = h.short }
input_made (six to bytes) h = record { made = h.bytes; short = h.short }

-- ADDRESSES

-- both addresses of a server
server_made : (t : TopologyState) (n : ℕ) → IsTopology t → is_some (server_at t n) ≡ true
    → IsIp4 (primary_of (server_at t n)) × IsIp4 (secondary_of (server_at t n))
server_made t n is h = by (node_at t n) refl h where
  by : (o : Option Node) → node_at t n ≡ o → is_some (option_and_then as_server o) ≡ true
      → IsIp4 (primary_of (option_and_then as_server o)) × IsIp4 (secondary_of (option_and_then as_server o))
  by None e g = absurd (false≢true g)
  by (Some (server a)) e g = let keeps : IsServerNode a = each_node t n (server a) is e in (keeps.primary.made, keeps.secondary.made)
  by (Some (nat a)) e g = absurd (false≢true g)
  by (Some (client a)) e g = absurd (false≢true g)
  by (Some (relay a)) e g = absurd (false≢true g)
  by (Some (native a)) e g = absurd (false≢true g)

pub client_made : (t : TopologyState) (n : ℕ) (c : ClientNode) → IsTopology t → node_at t n ≡ Some (client c)
    → IsMadeClient (client_settings t c)
client_made t n c is at =
    let keeps : IsClientNode t c = each_node t n (client c) is at in
    record { inside = keeps.inside; primary = (server_made t c.server is keeps.rules.asks).0 }

pub secondary_made : (t : TopologyState) (n : ℕ) (c : ClientNode) → IsTopology t → node_at t n ≡ Some (client c)
    → IsIp4 (client_settings t c).secondary
secondary_made t n c is at =
    let keeps : IsClientNode t c = each_node t n (client c) is at in
    (server_made t c.server is keeps.rules.asks).1

address_made : (lab : Lab) (H : List Full) (n : ℕ) → Scene lab H → IsIp6 (address_at lab H n)
unfolding own_address
address_made lab H n scene = by (node_at lab.topology n) refl where
  by : (o : Option Node) → node_at lab.topology n ≡ o → IsIp6 (address_of lab H n o)
  by None e = unspecified_is
  by (Some (client c)) e =
      let settings = client_settings lab.topology c in
      or_unspecified (qualification settings (journal n H)).address
      (address_is settings (journal n H).start (journal n H).entries
      (client_made lab.topology n c scene.is e) (scene.made.journals n))
  by (Some (native h)) e = let keeps : IsNativeNode lab.topology h = each_node lab.topology n (native h) scene.is e in keeps.six
  by (Some (server a)) e = unspecified_is
  by (Some (nat a)) e = unspecified_is
  by (Some (relay a)) e = unspecified_is

target_made : (lab : Lab) (H : List Full) (to : Target) → Scene lab H → IsTarget lab.topology to → IsIp6 (target_address lab H to)
target_made lab H (target.Node n) scene h = address_made lab H n scene
target_made lab H (target.At ip) scene h = h

-- PACKETS OF HOSTS

data_made : (src dst : Ip6) (body : List ℕ) → IsIp6 src → IsIp6 dst → IsBytes body → length body ≤ 1240
    → IsMadePacket (packet_bytes (data_packet src dst body))
data_made src dst body from to fits few =
    let p = packet_is_bytes (data_packet src dst body)
    (record { class = omega arith; flow = omega arith; next = omega arith; hop = omega arith; src = from; dst = to; body = omega (arith, few) }) in
    let long = p.long in
    record { bytes = p.bytes fits; short = omega (arith, long, few) }

echo_made : (src dst : Ip6) (seq : ℕ) → IsIp6 src → IsIp6 dst → seq ≤ 65535 → IsMadePacket (packet_bytes (echo_packet src dst seq))
echo_made src dst seq from to few =
    let fits : MessageFits (echo_request 1 seq []) = (omega arith, omega (arith, few)) in
    let c = message_is_carried HOST_HOP src dst (echo_request 1 seq [])
    (record { hop_fits = omega arith; src_fits = from; dst_fits = to; fits = fits; valid = tt; short = omega arith }) in
    let p = packet_is_bytes (message_packet HOST_HOP src dst (echo_request 1 seq [])) c.packet in
    let inner : length (message_packet HOST_HOP src dst (echo_request 1 seq [])).body ≡ 8 = c.long in
    let long = p.long in
    record { bytes = p.bytes ((message_is_bytes src dst (echo_request 1 seq [])).bytes fits no_bytes.each); short = omega (arith, long, inner) }

no_length : length (bytes_in ticked) ≤ DATAGRAM_MAX
no_length = omega arith

-- WHAT A NODE IS GIVEN

module _ (lab : Lab) (H : List Full) (scene : Scene lab H) where
  handed_in : (e : Event) (v : Verb) (n : ℕ) (x : List ℕ) → IsEvent lab.topology e → Hands lab H e v n x → IsMadePacket x
  handed_in (event.Host node to body) v n x asked h =
      subst IsMadePacket (sym h.2)
      (data_made (address_at lab H node) (target_address lab H to) body
      (address_made lab H node scene) (target_made lab H to scene asked.target) asked.made asked.short)
  handed_in (event.Echo node to seq) v n x asked h =
      subst IsMadePacket (sym h.2)
      (echo_made (address_at lab H node) (target_address lab H to) seq
      (address_made lab H node scene) (target_made lab H to scene asked.target) asked.most)
  handed_in (event.Raw node bytes) v n x asked h = subst IsMadePacket (sym h.2) (record { bytes = asked.made; short = asked.short })
  handed_in _ v n x asked h = absurd h

  pub given_made : (r : Full) (n : ℕ) (a : Node) (dst : Ep) (input : Input) → IsEvent lab.topology r.asked → IsGiven lab H r n a dst input → IsShortInput input
  given_made r n a dst input asked (delivered number x by at goes now to same) =
      subst IsShortInput (sym same) (input_made x (all_at IsMadeItem (wire H) number x scene.made.wire at))
  given_made r n a dst input asked (hosted v x hands none now to same) =
      let packet = handed_in r.asked v n x asked hands in
      subst IsShortInput (sym same) (record { made = packet.bytes; short = packet.short })
  given_made r n a dst input asked (ticks x due at none then to same) = subst IsShortInput (sym same) (record { made = tt; short = no_length })

  pub act_made : (r : Full) (n : ℕ) (a : Node) (e : Entry) → IsEvent lab.topology r.asked → IsActOf lab H r n a e → IsShortInput e.input
  act_made r n a e asked act =
      let same : e.input ≡ act.input = ap (λ (z : Entry). z.input) act.step ∙ entry_input lab H r.moment n act.dst act.input a in
      subst IsShortInput (sym same) (given_made r n a act.dst act.input asked act.is_given)
