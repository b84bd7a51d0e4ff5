-- A packet of a native host for a client that may not test it yet, has no room for it, or trusts it elsewhere while it is fresh: whatever comes of it, the client keeps it for itself or drops it. The
-- relay, where it asks the client, lets go nothing but the packet.
use Rattle.theory_reaching.proofs.Words.{Bool, ClientNode, DATAGRAM_MAX, Full, GoesBetween, Ip6, IsBytes, IsCalmNext, Item, Journal, Lab, List, NativeNode, None, ReadsPayload, RelayNode, ServerNode, Some, WayIn, address_at, ap, arith, asks_at, bubble_bytes, embedded, false, fields_in, forwarded, is_echo_reply, is_some, is_teredo, is_trusted_at, journal, known, length, mentions, message_in, nats_of, node_at, now, packet_is_payload, read_as, relay_mentions, server, server_ep, six, true, udp, value_written, ℕ, ◌∙◌, ◌∷◌, ◌≡◌, ◌≤◌}
use Rattle.theory_reaching.proofs.entries.ClientKeeps.{Wary}
use Rattle.theory_reaching.proofs.schedules.OtherRecords.{stays_at, way_still}
use Rattle.theory_reaching.proofs.relays.RelayEnds.{end, native_keeps}
use Rattle.theory_reaching.proofs.waiting.RelayKeepsOnly.{OnlyThis}
use Rattle.theory_reaching.proofs.relays.Relays.{RelayedHosts, AreRelayed}

-- native m's host hands in x for client n; x is no echo reply
pub record IsForClient (lab : Lab) (H : List Full) (n m : ℕ) (c : ClientNode) (h : NativeNode) (r : RelayNode) (x : List ℕ) : Type 0 where
  pub are : AreRelayed lab H n m c h r
  pub packet : GoesBetween h.six (address_at lab H n) x
  pub bytes : IsBytes x
  pub no_reply : is_echo_reply (message_in (fields_in x)) ≡ false

-- the packet is for the client, and a record hands it in or not
pub record ForClient : Type 0 where
  pub lab : Lab
  pub H : List Full
  pub n : ℕ
  pub m : ℕ
  pub c : ClientNode
  pub h : NativeNode
  pub r : RelayNode
  pub x : List ℕ
  pub q : Full
  pub is_for : IsForClient lab H n m c h r x

module _ (the : ForClient) (asks : Bool) where
  open the use {lab, H, n, m, c, h, r, x, is_for}

  abbrev are : AreRelayed lab H n m c h r
  are = is_for.are

  abbrev own : Ip6
  own = address_at lab H n

  abbrev k : ℕ
  k = h.relay

  abbrev the_three : RelayedHosts
  the_three = record { lab = lab; H = H; n = n; m = m; c = c; h = h; r = r; are = are }

  abbrev row : ServerNode
  row = (end the_three).server_row

  abbrev server_is : node_at lab.topology c.server ≡ Some (server row)
  server_is = (end the_three).server_is

  -- WHAT IS ON ITS WAY

  -- the packet at the relay; where this may ask, its bubble, by the client's server, and the client's; and the packet to the client
  pub data IsOnWay (y : Item) : Type 0 where
    given : y ≡ six (Some h.relay) x → IsOnWay y
    asking : asks ≡ true → y ≡ udp r.at (server_ep row.primary) (bubble_bytes r.six own) → IsOnWay y
    told : asks ≡ true → y ≡ udp (server_ep row.primary) (embedded own) (forwarded (Some r.at) (bubble_bytes r.six own)) → IsOnWay y
    answering : asks ≡ true → y ≡ udp (embedded own) r.at (bubble_bytes own r.six) → IsOnWay y
    to_client_itself : y ≡ udp r.at (embedded own) x → IsOnWay y

  -- the relay trusts the client, or nothing but the packet waits at it
  abbrev pub AtRelay : Bool → Journal → ℕ → Type 0
  AtRelay true u t = OnlyThis x (known (relay_mentions u.entries) t own).waiting
  AtRelay false u t = is_some (known (relay_mentions u.entries) t own).trusted ≡ true

  -- the client is wary of the native, and doesn't trust it at the relay's endpoint
  abbrev pub Closed : Journal → ℕ → Type 0
  Closed u t = Wary (mentions u.entries) t h.six

  abbrev pub Mistrusted : Journal → ℕ → Type 0
  Mistrusted u t = is_trusted_at r.at (known (mentions u.entries) t h.six) ≡ false

  pub record IsHeldUp (G : List Full) : Type 0 where
    pub waits : AtRelay asks (journal k G) (now G)
    pub closed : Closed (journal n G) (now G)
    pub mistrusted : Mistrusted (journal n G) (now G)
    pub way : WayIn lab G (asks_at lab c) (nats_of lab c) c.inside (embedded own)

  -- A RECORD OF ANOTHER NODE

  -- leaves it so
  pub still_held_up : (G : List Full) (p : Full) → IsCalmNext lab G p → (a : ℕ) → p.node ≡ Some a → (a ≡ k → ⊥) → (a ≡ n → ⊥) → IsHeldUp G
      → IsHeldUp (p ∷ G)
  still_held_up G p next a node no_relay no_client before = record {
    waits = stays_at lab k (AtRelay asks) G p a next.moment node no_relay before.waits;
    closed = stays_at lab n Closed G p a next.moment node no_client before.closed;
    mistrusted = stays_at lab n Mistrusted G p a next.moment node no_client before.mistrusted;
    way = way_still lab c own G p next before.way;
  }

  fits : (i : ℕ) → i ≤ 1280 → i ≤ DATAGRAM_MAX
  fits i e = omega (arith, e)

  pub reads_packet : ReadsPayload (value_written None None (fields_in x)) x
  reads_packet = packet_is_payload x (fields_in x) is_for.bytes (fits (length x) is_for.packet.short) (read_as x is_for.packet.packet)

  pub native : is_teredo (fields_in x).src ≡ false
  native = ap is_teredo is_for.packet.source ∙ (native_keeps the_three).outside.other
