-- What a client does with a datagram: the first line whose condition holds decides (RFC 4380, section 5.2.3).
use Rattle.std.specs.Prelude.{ℕ, nat_eq, ◌&&◌, ◌||◌, not, Bool, false, List, [], ◌∷◌, ◌++◌, map, length, Option, Some, None, option_to_list, is_some}
use Rattle.std.specs.Cmp.Lexicographic.{pointwise}
use Rattle.byteorder.specs.Endian.{big_bytes}
use Rattle.td_base.specs.Ip6.{same_ip6}
use Rattle.td_base.specs.Ep.{same_ep, server_ep}
use Rattle.td_base.specs.Reach.{is_usable, is_global6}
use Rattle.td_base.specs.declared.ipv6.Ip6.{Ip6}
use Rattle.td_base.specs.declared.endpoint.Ep.{Ep}
use Rattle.td_base.specs.declared.reach.Policy.{Policy}
use Rattle.ipv6_packet.specs.Reads.{is_big}
use Rattle.icmp6.specs.Message.{Message, echo_reply}
use Rattle.teredo_addr.specs.Teredo.{is_teredo, embedded}
use Rattle.indications.specs.Leads.{is_keyed, is_confirmed, origin_in}
use Rattle.bubble.specs.Bubbles.{is_bubble}
use Rattle.bubble.specs.Payloads.{Value}
use Rattle.bubble.specs.Reads.{is_payload, value_in}
use Rattle.bubble.specs.Messages.{message_in, is_ill_formed, is_advert, is_echo_reply}
use Rattle.teredo_node.specs.declared.fate.Fate.{Fate}
use Rattle.teredo_node.specs.declared.fate.Fate.TheVariants as fate
use Rattle.teredo_node.specs.Step.{Step, just, rest_of}
use Rattle.teredo_node.specs.Sends.{sending, releases}
use Rattle.teredo_node.specs.Words.{nonce_from}
use Rattle.teredo_node.specs.Journal.{Words}
use Rattle.teredo_node.specs.Rows.{first_line}
use Rattle.peer_list.specs.Peers.{Peer}
use Rattle.peer_list.specs.Judged.{is_trusted_at, is_fresh, is_barred, holds_most, held_from, held_elsewhere}
use Rattle.qualify.specs.declared.settings.Settings.{Settings}
use Rattle.qualify.specs.Solicitations.{is_qualified, own_address}
use Rattle.qualify.specs.Advertisements.{advert_words, advert_row}
use Rattle.client_rules.specs.Standing.{Standing, known_in}
use Rattle.client_rules.specs.Tries.{direct_bubble, test}

-- CONDITIONS

-- one of the server's two endpoints
unfoldable pub is_from_server : Settings → Ep → Bool
is_from_server s from = same_ep from (server_ep s.primary) || same_ep from (server_ep s.secondary)

-- a usable origin, which a Teredo source embeds
abbrev pub is_good_origin : Policy → Ip6 → Option Ep → Bool
is_good_origin policy p None = false
is_good_origin policy p (Some origin) = is_usable policy origin && (not (is_teredo p) || same_ep origin (embedded p))

-- an echo reply whose data is this nonce
abbrev pub is_reply_to : Option ℕ → Option Message → Bool
is_reply_to (Some nonce) (Some (echo_reply id seq body)) = pointwise nat_eq body (big_bytes 8 nonce)
is_reply_to _ _ = false

-- what is known of the packet's source
pub record SeenPeer : Type 0 where
  pub room : Bool
  pub barred : Bool
  pub trusted_here : Bool
  pub listed : Bool
  pub fresh : Bool
  pub reply : Bool  -- the message is one with the nonce that is kept for it
  pub tested : Bool  -- a nonce is kept for it
  pub holds_most : Bool

-- what the table of datagrams observes of the packet's source
abbrev pub seen_peer : Standing → Ep → Option Message → SeenPeer
seen_peer a from message =
    let peer = known_in a in
    record {
      room = a.room;
      barred = is_barred a.moment peer;
      trusted_here = is_trusted_at from peer;
      listed = is_some a.peer;
      fresh = is_fresh a.moment peer;
      reply = is_reply_to peer.nonce message;
      tested = is_some peer.nonce;
      holds_most = holds_most peer;
    }

-- what the lines ask
pub record Seen : Type 0 where
  pub payload : Bool
  pub keyed : Bool
  pub confirmed : Bool
  pub big : Bool
  pub from_server : Bool
  pub ill_formed : Bool
  pub advert : Bool
  pub bubble : Bool
  pub origin : Bool
  pub qualified : Bool
  pub mine : Bool
  pub itself : Bool
  pub good_origin : Bool
  pub peer : SeenPeer
  pub teredo : Bool
  pub embedded_here : Bool
  pub global : Bool
  pub echo_reply : Bool

-- what is seen of a payload from `from`; p is its packet's source
abbrev pub seen_of : Settings → Standing → Ep → Bool → Value → Seen
seen_of s a from payload v =
    let p = v.packet.src in
    let own = own_address a.qualification in
    record {
      payload = payload;
      keyed = is_keyed v.lead;
      confirmed = is_confirmed v.lead;
      big = is_big v.packet;
      from_server = is_from_server s from;
      ill_formed = is_ill_formed v.packet;
      advert = is_advert (message_in v.packet);
      bubble = is_bubble v.packet;
      origin = is_some (origin_in v.lead);
      qualified = is_qualified a.qualification.phase;
      mine = same_ip6 v.packet.dst own;
      itself = same_ip6 p own;
      good_origin = is_good_origin s.policy p (origin_in v.lead);
      peer = seen_peer a from (message_in v.packet);
      teredo = is_teredo p;
      embedded_here = is_teredo p && same_ep (embedded p) from;
      global = is_global6 p;
      echo_reply = is_echo_reply (message_in v.packet);
    }

-- what the table of datagrams observes
unfoldable pub seen : Settings → Standing → Ep → List ℕ → Seen
seen s a from x = seen_of s a from (is_payload x) (value_in x)

-- THE TABLE

-- what is asked of the datagram
abbrev pub datagram_lines : Seen → List (Bool × Fate)
datagram_lines a =
    (not a.payload, fate.Malformed)
    ∷ (a.keyed, fate.Keyed)
    ∷ (a.confirmed, fate.Confirmation)
    ∷ (a.big, fate.Big)
    ∷ []

-- what is the server's own
abbrev pub server_lines : Seen → (advert : Fate) → List (Bool × Fate)
server_lines a advert =
    (a.from_server && a.ill_formed, fate.Icmp)
    ∷ (a.from_server && a.advert, advert)
    ∷ (a.from_server && not (a.bubble && a.origin), fate.ServerOther)
    ∷ []

-- who sent the packet to whom
abbrev pub packet_lines : Seen → List (Bool × Fate)
packet_lines a =
    (not a.qualified, fate.Off)
    ∷ (not a.mine, fate.NotMine)
    ∷ (a.itself, fate.Itself)
    ∷ []

-- bubbles through the server
abbrev pub indirect_lines : Seen → List (Bool × Fate)
indirect_lines a =
    (a.from_server && not a.good_origin, fate.Origin)
    ∷ (a.from_server && not a.peer.room, fate.PeersFull)
    ∷ (a.from_server && a.peer.barred, fate.Barred)
    ∷ (a.from_server, fate.Indirect)
    ∷ []

-- packets of peers that are trusted, or answer a test: rules 1 and 2
abbrev pub trusted_lines : Seen → List (Bool × Fate)
trusted_lines a =
    (a.peer.trusted_here && a.bubble, fate.Rule1Bubble)
    ∷ (a.peer.trusted_here, fate.Rule1)
    ∷ (not a.teredo && (a.peer.listed && (not a.peer.fresh && a.peer.reply)), fate.Rule2)
    ∷ []

-- packets of other clients: rule 3
abbrev pub teredo_lines : Seen → List (Bool × Fate)
teredo_lines a =
    (a.embedded_here && not a.peer.room, fate.PeersFull)
    ∷ (a.embedded_here && a.bubble, fate.Rule3Bubble)
    ∷ (a.embedded_here, fate.Rule3)
    ∷ (a.teredo, fate.Mismatch)
    ∷ []

-- neither a bubble nor an answer to a test
abbrev pub is_plain : Seen → Bool
is_plain a = not a.bubble && not a.echo_reply

-- from an address that may be tested
abbrev pub is_testable : Seen → Bool
is_testable a = a.global && (not a.peer.fresh && (not a.peer.barred && (a.peer.room && is_plain a)))

-- from one that is being tested
abbrev pub is_under_test : Seen → Bool
is_under_test a = a.global && (a.peer.listed && (not a.peer.fresh && (a.peer.barred && (a.peer.tested && is_plain a))))

-- all others: rule 6
abbrev pub suspicious_lines : Seen → List (Bool × Fate)
suspicious_lines a =
    (is_testable a && not a.peer.holds_most, fate.HeldTest)
    ∷ (is_testable a, fate.SuspiciousTest)
    ∷ (is_under_test a && not a.peer.holds_most, fate.Held)
    ∷ []

-- the lines on packets that come from a peer itself
abbrev pub direct_lines : Seen → List (Bool × Fate)
direct_lines a = trusted_lines a ++ (teredo_lines a ++ suspicious_lines a)

-- the fate, where an advertisement has this one
abbrev pub reception_row : Seen → (advert : Fate) → Fate
reception_row a advert = first_line (datagram_lines a ++ (server_lines a advert ++ (packet_lines a ++ (indirect_lines a ++ direct_lines a)))) fate.Suspicious

-- the fate of a datagram
unfoldable pub reception_fate : Settings → Standing → Ep → List ℕ → Fate
reception_fate s a from x = reception_row (seen s a from x) (advert_row s a.qualification from (value_in x))

-- WHAT A FATE BRINGS

-- the packet goes to the host
abbrev pub hands_over : Fate → List ℕ → Value → Ep → Peer → Step
hands_over fate x v from peer = record (sending fate (releases from peer.waiting)) { handed = Some (rest_of v.lead.at x) }

-- the packets that are held and came from there go to the host, in order; the others are dropped
abbrev pub hands_late : Ep → Peer → Step
hands_late from peer = record (sending fate.Rule2 (releases from peer.waiting)) { late = held_from from peer.held; gone = held_elsewhere from peer.held }

-- a direct bubble to the origin
abbrev pub answers_bubble : Settings → Standing → Value → Step
answers_bubble s a v = sending fate.Indirect (map (direct_bubble (own_address a.qualification) v.packet.src) (option_to_list (origin_in v.lead)))

-- a test to the packet's source
abbrev pub tests_source : Fate → Settings → Standing → Value → Words → Step
tests_source fate s a v w = record (sending fate (test s (own_address a.qualification) v.packet.src (nonce_from w) ∷ [])) { drawn = 2 }

-- what a client does with a datagram of this fate
abbrev pub reception_step : Settings → Standing → Ep → List ℕ → Value → Words → Fate → Step
reception_step s a from x v w fate.QualifiedCone = record (just fate.QualifiedCone) { drawn = advert_words s fate.QualifiedCone }
reception_step s a from x v w fate.QualifiedRestricted = record (just fate.QualifiedRestricted) { drawn = advert_words s fate.QualifiedRestricted }
reception_step s a from x v w fate.Changed = record (just fate.Changed) { gone = a.waiting; drawn = advert_words s fate.Changed }
reception_step s a from x v w fate.Indirect = answers_bubble s a v
reception_step s a from x v w fate.Rule1 = record (hands_over fate.Rule1 x v from (known_in a)) { gone = length (known_in a).held }
reception_step s a from x v w fate.Rule1Bubble = record (sending fate.Rule1Bubble (releases from (known_in a).waiting)) { gone = length (known_in a).held }
reception_step s a from x v w fate.Rule2 = hands_late from (known_in a)
reception_step s a from x v w fate.Rule3 = hands_over fate.Rule3 x v from (known_in a)
reception_step s a from x v w fate.Rule3Bubble = sending fate.Rule3Bubble (releases from (known_in a).waiting)
reception_step s a from x v w fate.HeldTest = tests_source fate.HeldTest s a v w
reception_step s a from x v w fate.SuspiciousTest = tests_source fate.SuspiciousTest s a v w
reception_step s a from x v w fate = just fate

-- what a client does with a datagram x from `from`, standing so to the packet's source
unfoldable pub reception : Settings → Standing → Ep → List ℕ → Words → Step
reception s a from x w = reception_step s a from x (value_in x) w (reception_fate s a from x)
