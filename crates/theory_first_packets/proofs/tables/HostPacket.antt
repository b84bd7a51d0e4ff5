-- What a client that meets another does with its host's packet for it.
use Rattle.theory_first_packets.proofs.Words.{Bool, Entry, GoesOut, Ip6, Journal, List, Peer, Policy, Settings, Some, Words, [], and_from, and_right, ap, both_bubbles, client_out, embedded, entry, false, fields_in, given, has_cone, has_room, is_barred, is_big, is_bubble, is_fresh, is_global, is_packet, is_reachable, is_teredo, is_usable, known, mentions, not, not_from_true, own_address, qualification, queues, refl, same_ip6, same_ip6-self, send, server_in, standing_at, subst, sym, tries_by, true, try_sends, ℕ, ◌∙◌, ◌∷◌, ◌≡◌}
use Rattle.teredo_node.specs.declared.fate.Fate.TheVariants as fate
use Rattle.theory_first_packets.proofs.tables.GivenPacket.{sent_at_once, waits_for_it, no_room_for_it, given_here, entry_given}
use Rattle.theory_first_packets.proofs.tables.Known.{not_spent, not_full}
use Rattle.theory_first_packets.proofs.tables.Meeting.{Meets}
use Rattle.theory_first_packets.proofs.passing.OwnAddress.{IsHere, address_is}

-- a packet of the host to a peer that the client may meet
pub record HostSends : Type 0 where
  pub s : Settings
  pub j : Journal
  pub n : ℕ
  pub x : List ℕ
  pub is_one : is_packet x ≡ true
  pub meets : Meets s (fields_in x).src (fields_in x).dst
  pub here : IsHere s j (fields_in x).src
  pub small : is_big (fields_in x) ≡ false
  pub plain : is_bubble (fields_in x) ≡ false

-- x, from this client to the peer
module _ (host_sends : HostSends) where
  open host_sends use {s, j, n, x, is_one, meets, here, small, plain}

  abbrev to : Ip6
  to = (fields_in x).dst

  from_here : own_address (qualification s j) ≡ (fields_in x).src
  from_here = address_is s j (fields_in x).src here.address

  -- the peer can be reached
  reachable : is_reachable s.policy to ≡ true
  unfolding is_reachable
  reachable = and_from (is_usable s.policy (embedded to)) (is_global s.policy (server_in to))
      (ap (λ (z : Policy). is_usable z (embedded to)) meets.strict ∙ meets.usable)
      (ap (λ (z : Policy). is_global z (server_in to)) meets.strict ∙ meets.server_global)

  -- what the lines see of the packet
  pub out : GoesOut (given_here s j n x is_one)
  unfolding standing_at
  out = record {
    qualified = here.qualified;
    packet = refl;
    short = small;
    own_source = ap (same_ip6 (fields_in x).src) from_here ∙ same_ip6-self (fields_in x).src;
    global = meets.global;
    no_bubble = plain;
    foreign = ap (same_ip6 to) from_here ∙ meets.other;
    reachable = and_right (is_teredo to) (not (is_reachable s.policy to)) (not_from_true (is_reachable s.policy to) reachable);
  }

  -- which isn't fresh
  module _ (stale : is_fresh n (known (mentions j.entries) n to) ≡ false) where
    -- what is known of it
    abbrev peer : Peer
    peer = known (mentions j.entries) n to

    -- it goes at once to a cone peer
    pub record GoesAtOnce (e : Entry) : Type 0 where
      pub sent_cone : e.step.fate ≡ fate.SentCone
      pub sends : e.step.sends ≡ send (embedded to) x ∷ []
      pub about : e.peer ≡ Some to
      pub moment : e.moment ≡ n

    -- by the table
    pub goes_at_once : has_cone to ≡ true → (w : Words) → GoesAtOnce (client_out s j n x w)
    unfolding standing_at
    goes_at_once cone w = subst GoesAtOnce (sym (entry_given s j n x is_one w fate.SentCone
        (sent_at_once (given_here s j n x is_one) (record { out = out; stale = stale; cone = and_from (is_teredo to) (has_cone to) meets.teredo cone }))))
        (record { sent_cone = refl; sends = refl; about = refl; moment = refl })

    -- else it waits, and bubbles go out
    pub record Waits (e : Entry) : Type 0 where
      pub queued : e.step.fate ≡ fate.Queued
      pub sends : e.step.sends ≡ both_bubbles (has_cone (fields_in x).src) (fields_in x).src to
      pub packet : e.packet ≡ Some x
      pub about : e.peer ≡ Some to
      pub moment : e.moment ≡ n

    -- the bubbles of a try
    tries_are : (w : Words) → try_sends s (own_address (qualification s j)) to w ≡ both_bubbles (has_cone (fields_in x).src) (fields_in x).src to
    unfolding try_sends
    tries_are w =
        ap (λ (b : Bool). tries_by b s (own_address (qualification s j)) to w) meets.teredo
        ∙ ap (λ (z : Ip6). both_bubbles (has_cone z) z to) from_here

    -- by the table
    pub waits_here : has_cone to ≡ false → has_room (mentions j.entries) n to ≡ true → (peer.waiting ≡ []) × (is_barred n peer ≡ false) → (w : Words)
        → Waits (client_out s j n x w)
    unfolding standing_at
    waits_here cone room free w =
        subst Waits (sym (entry_given s j n x is_one w fate.Queued
        (waits_for_it (given_here s j n x is_one) (record {
          out = out;
          stale = stale;
          no_cone = and_right (is_teredo to) (has_cone to) cone;
          room = room;
          unspent = not_spent n peer free.1;
          free = not_full peer free.0;
        }))))
        (subst (λ (b : Bool). Waits (entry n (given x) (Some x) (Some to) w (queues b s (standing_at s j n to) to w))) (sym free.1)
        (record { queued = refl; sends = tries_are w; packet = refl; about = refl; moment = refl }))

    -- it is dropped where there is no room for the peer
    pub record IsTurned (e : Entry) : Type 0 where
      pub full : e.step.fate ≡ fate.PeersFull
      pub sends : e.step.sends ≡ []

    -- by the table
    pub turned_away : has_cone to ≡ false → has_room (mentions j.entries) n to ≡ false → (w : Words) → IsTurned (client_out s j n x w)
    unfolding standing_at
    turned_away cone room w =
        subst IsTurned (sym (entry_given s j n x is_one w fate.PeersFull
        (no_room_for_it (given_here s j n x is_one) out stale (and_right (is_teredo to) (has_cone to) cone) room)))
        (record { full = refl; sends = refl })
