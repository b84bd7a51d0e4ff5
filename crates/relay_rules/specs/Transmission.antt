-- What a relay does with a packet of the IPv6 side: the first line whose condition holds decides (RFC 4380, section 5.4.1).
use Rattle.std.specs.Prelude.{ℕ, ◌||◌, not, Bool, true, false, List, [], ◌∷◌, ◌++◌, is_some}
use Rattle.td_base.specs.Ip4.{same_ip}
use Rattle.td_base.specs.Ep.{server_ep}
use Rattle.td_base.specs.Reach.{is_global6}
use Rattle.td_base.specs.declared.ipv6.Ip6.{Ip6}
use Rattle.ipv6_packet.specs.Packets.{Fields}
use Rattle.ipv6_packet.specs.Reads.{is_big, is_packet, fields_in}
use Rattle.teredo_addr.specs.Teredo.{is_teredo, server_in, has_cone, embedded}
use Rattle.teredo_addr.specs.Reaching.{is_reachable}
use Rattle.bubble.specs.Bubbles.{bubble_bytes}
use Rattle.teredo_node.specs.declared.fate.Fate.{Fate}
use Rattle.teredo_node.specs.declared.fate.Fate.TheVariants as fate
use Rattle.teredo_node.specs.Step.{Send, Step, just}
use Rattle.teredo_node.specs.Sends.{send, sending}
use Rattle.teredo_node.specs.Rows.{first_line}
use Rattle.peer_list.specs.Judged.{is_spent, is_barred, is_full}
use Rattle.relay_rules.specs.Standing.{RelaySettings, RelayStanding, relay_known_in}

-- what the lines ask, in their order
pub record RelayGiven : Type 0 where
  pub packet : Bool
  pub big : Bool
  pub teredo : Bool
  pub foreign_source : Bool  -- global, and not Teredo
  pub reachable : Bool
  pub looped : Bool
  pub trusted : Bool
  pub room : Bool
  pub cone : Bool
  pub spent : Bool
  pub full : Bool

-- what is seen of a packet
abbrev pub relay_given_of : RelaySettings → RelayStanding → Bool → Fields → RelayGiven
relay_given_of s a packet p =
    let peer = relay_known_in a in
    record {
      packet = packet;
      big = is_big p;
      teredo = is_teredo p.dst;
      foreign_source = not (is_teredo p.src || not (is_global6 p.src));
      reachable = is_reachable s.policy p.dst;
      looped = same_ip (embedded p.dst).ip s.at.ip;
      trusted = is_some peer.trusted;
      room = a.room;
      cone = has_cone p.dst;
      spent = is_spent a.moment peer;
      full = is_full peer;
    }

-- what the table of the IPv6 side's packets observes
unfoldable pub relay_given : RelaySettings → RelayStanding → List ℕ → RelayGiven
relay_given s a x = relay_given_of s a (is_packet x) (fields_in x)

-- what is asked of the packet
abbrev pub relay_packet_lines : RelayGiven → List (Bool × Fate)
relay_packet_lines a =
    (not a.packet, fate.Malformed)
    ∷ (a.big, fate.Big)
    ∷ (not a.teredo, fate.Dest)
    ∷ (not a.foreign_source, fate.Source)
    ∷ (not a.reachable, fate.Embedded)
    ∷ (a.looped, fate.Loop)
    ∷ []

-- what is asked of its destination
abbrev pub relay_destination_lines : RelayGiven → List (Bool × Fate)
relay_destination_lines a =
    (a.trusted, fate.Sent)
    ∷ (not a.room, fate.PeersFull)
    ∷ (a.cone, fate.SentCone)
    ∷ (a.spent, fate.Barred)
    ∷ (a.full, fate.QueueFull)
    ∷ []

-- the fate of a packet of the IPv6 side
abbrev pub relay_transmission_row : RelayGiven → Fate
relay_transmission_row a = first_line (relay_packet_lines a ++ relay_destination_lines a) fate.Queued

-- a try: a bubble through the peer's server
unfoldable pub bubble_to : RelaySettings → Ip6 → Send
bubble_to s p = send (server_ep (server_in p)) (bubble_bytes s.six p)

-- it waits, and a bubble goes out unless the destination is barred
abbrev pub relay_queues : (barred : Bool) → RelaySettings → Ip6 → Step
relay_queues true s p = just fate.Queued
relay_queues false s p = sending fate.Queued (bubble_to s p ∷ [])

-- what a relay does with a packet of the IPv6 side of this fate
abbrev pub relay_transmission_step : RelaySettings → RelayStanding → List ℕ → Ip6 → Fate → Step
relay_transmission_step s a x p fate.Sent = sending fate.Sent (send (embedded p) x ∷ [])
relay_transmission_step s a x p fate.SentCone = sending fate.SentCone (send (embedded p) x ∷ [])
relay_transmission_step s a x p fate.Queued = relay_queues (is_barred a.moment (relay_known_in a)) s p
relay_transmission_step s a x p fate = just fate

-- what a relay does with a packet x of the IPv6 side, standing so to the packet's destination
unfoldable pub relay_transmission : RelaySettings → RelayStanding → List ℕ → Step
relay_transmission s a x = relay_transmission_step s a x (fields_in x).dst (relay_transmission_row (relay_given s a x))
