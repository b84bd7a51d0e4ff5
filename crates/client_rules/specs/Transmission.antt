-- What a client does with a packet of its host: the first line whose condition holds decides (RFC 4380, section 5.2.4).
use Rattle.std.specs.Prelude.{ℕ, ◌&&◌, not, Bool, true, false, List, [], ◌∷◌, ◌++◌, map, option_to_list}
use Rattle.td_base.specs.Ip6.{same_ip6}
use Rattle.td_base.specs.Reach.{is_global6}
use Rattle.td_base.specs.declared.ipv6.Ip6.{Ip6}
use Rattle.td_base.specs.declared.endpoint.Ep.{Ep}
use Rattle.ipv6_packet.specs.Packets.{Fields}
use Rattle.ipv6_packet.specs.Reads.{is_big, is_packet, fields_in}
use Rattle.teredo_addr.specs.Teredo.{is_teredo, has_cone, embedded}
use Rattle.teredo_addr.specs.Reaching.{is_reachable}
use Rattle.bubble.specs.Bubbles.{is_bubble}
use Rattle.teredo_node.specs.declared.fate.Fate.{Fate}
use Rattle.teredo_node.specs.declared.fate.Fate.TheVariants as fate
use Rattle.teredo_node.specs.Step.{Step, just}
use Rattle.teredo_node.specs.Sends.{send, sending}
use Rattle.teredo_node.specs.Journal.{Words}
use Rattle.teredo_node.specs.Rows.{first_line}
use Rattle.peer_list.specs.Judged.{is_fresh, is_spent, is_barred, is_full}
use Rattle.qualify.specs.declared.settings.Settings.{Settings}
use Rattle.qualify.specs.Solicitations.{is_qualified, own_address}
use Rattle.client_rules.specs.Standing.{Standing, known_in}
use Rattle.client_rules.specs.Tries.{try_sends, try_words}

-- what the lines ask, in their order
pub record Given : Type 0 where
  pub qualified : Bool
  pub packet : Bool
  pub big : Bool
  pub own_source : Bool
  pub global : Bool
  pub bubble : Bool
  pub itself : Bool
  pub unreachable : Bool
  pub fresh : Bool
  pub cone : Bool
  pub room : Bool
  pub spent : Bool
  pub full : Bool

-- what is seen of a packet
abbrev pub given_of : Settings → Standing → Bool → Fields → Given
given_of s a packet p =
    let own = own_address a.qualification in
    let peer = known_in a in
    record {
      qualified = is_qualified a.qualification.phase;
      packet = packet;
      big = is_big p;
      own_source = same_ip6 p.src own;
      global = is_global6 p.dst;
      bubble = is_bubble p;
      itself = same_ip6 p.dst own;
      unreachable = is_teredo p.dst && not (is_reachable s.policy p.dst);
      fresh = is_fresh a.moment peer;
      cone = is_teredo p.dst && has_cone p.dst;
      room = a.room;
      spent = is_spent a.moment peer;
      full = is_full peer;
    }

-- what the table of the host's packets observes
unfoldable pub given : Settings → Standing → List ℕ → Given
given s a x = given_of s a (is_packet x) (fields_in x)

-- THE TABLE

-- what is asked of the packet
abbrev pub host_lines : Given → List (Bool × Fate)
host_lines a =
    (not a.qualified, fate.Off)
    ∷ (not a.packet, fate.Malformed)
    ∷ (a.big, fate.Big)
    ∷ (not a.own_source, fate.Source)
    ∷ (not a.global, fate.Dest)
    ∷ (a.bubble, fate.Bubble)
    ∷ (a.itself, fate.Itself)
    ∷ []

-- what is asked of its destination
abbrev pub destination_lines : Given → List (Bool × Fate)
destination_lines a =
    (a.unreachable, fate.Embedded)
    ∷ (a.fresh, fate.Sent)
    ∷ (a.cone, fate.SentCone)
    ∷ (not a.room, fate.PeersFull)
    ∷ (a.spent, fate.Barred)
    ∷ (a.full, fate.QueueFull)
    ∷ []

-- the fate of a packet of the host
abbrev pub transmission_row : Given → Fate
transmission_row a = first_line (host_lines a ++ destination_lines a) fate.Queued

-- WHAT A FATE BRINGS

-- it waits, and a try goes out unless the destination is barred
abbrev pub queues : (barred : Bool) → Settings → Standing → Ip6 → Words → Step
queues true s a p w = just fate.Queued
queues false s a p w = record (sending fate.Queued (try_sends s (own_address a.qualification) p w)) { drawn = try_words p }

-- what a client does with a packet of its host of this fate
abbrev pub transmission_step : Settings → Standing → List ℕ → Ip6 → Words → Fate → Step
transmission_step s a x p w fate.Sent = sending fate.Sent (map (λ (at : Ep). send at x) (option_to_list (known_in a).trusted))
transmission_step s a x p w fate.SentCone = sending fate.SentCone (send (embedded p) x ∷ [])
transmission_step s a x p w fate.Queued = queues (is_barred a.moment (known_in a)) s a p w
transmission_step s a x p w fate = just fate

-- what a client does with a packet x of its host, standing so to the packet's destination
unfoldable pub transmission : Settings → Standing → List ℕ → Words → Step
transmission s a x w = transmission_step s a x (fields_in x).dst w (transmission_row (given s a x))
