-- Between a client and a host of the IPv6 Internet, finer: what is asked of the two and of the host's relay, and the words (RFC 4380,
-- sections 5.2.3, 5.2.4, 5.2.9 and 5.4).
use Rattle.std.specs.Prelude.{ℕ, ◌&&◌, ◌||◌, not, Bool, false, List, [], ◌∷◌, Option, Some, None}
use Rattle.td_base.specs.declared.endpoint.Ep.{Ep}
use Rattle.td_base.specs.declared.ipv6.Ip6.{Ip6}
use Rattle.teredo_node.specs.Rows.{first_line}
use Rattle.peer_list.specs.Listed.{is_listed, has_room}
use Rattle.peer_list.specs.Judged.{is_fresh, is_trusted_at, is_barred, holds_most}
use Rattle.topology.specs.declared.client_node.ClientNode.{ClientNode}
use Rattle.topology.specs.declared.relay_node.RelayNode.{RelayNode}
use Rattle.topology.specs.declared.native_node.NativeNode.{NativeNode}
use Rattle.history.specs.Full.{Full}
use Rattle.legal.specs.Lab.{Lab}
use Rattle.legal.specs.Past.{now}
use Rattle.legal.specs.Next.{address_at}
use Rattle.theory_settled.specs.Clients.{asks_at}
use Rattle.theory_first_packets.specs.MayMeet.{known_by}
use Rattle.theory_first_natives.specs.MayMeetThroughRelay.{known_by_relay, must_ask}
use Rattle.theory_reaching.specs.Conditions.{is_on, peers_of, clients_of, keeps_packets, has_room_for_both}
use Rattle.theory_reaching.specs.Speaks.{speaks_to, speaks_to_both, is_heard_at, is_heard_once_sent, is_of_server}
use Rattle.theory_reaching.specs.FinerWords as word
use Rattle.theory_reaching.specs.FinerWords.{Finer}

-- what is asked of client a, native host h and its relay r
pub record FinerRelayed : Type 0 where
  pub on : Bool  -- a is qualified
  pub fresh : Bool  -- h is fresh at a
  pub at_server : Bool  -- and trusted where a server answers
  pub trusted : Bool  -- h is trusted at r's endpoint by a
  pub listed : Bool  -- r lists a
  pub relay_keeps : Bool  -- r keeps packets for a
  pub asks : Bool  -- r must ask for a
  pub speaks : Bool  -- a speaks to r's endpoint
  pub speaks_server : Bool  -- to that of its own server
  pub speaks_both : Bool  -- to both
  pub let_in : Bool  -- r's endpoint is heard at a
  pub heard_once : Bool  -- once a sent to its server
  pub server_heard : Bool  -- its server is heard at a
  pub barred : Bool  -- a is barred for h
  pub bubble_barred : Bool  -- r is barred for a, or a for r itself
  pub room : Bool  -- a has room for h
  pub relay_room : Bool  -- r for a
  pub room_for_relay : Bool  -- a for r itself
  pub room_for_both : Bool  -- a for h and r
  pub holds_most : Bool  -- a holds four packets of h

-- is the endpoint one of a server, if there is one?
abbrev pub is_at_server : Lab → Option Ep → Bool
is_at_server lab None = false
is_at_server lab (Some at) = is_of_server lab at

-- client n, which is a, with this address, and native h with its relay, which is r
abbrev pub finer_relayed_with : Lab → List Full → ℕ → ClientNode → NativeNode → RelayNode → (own : Ip6) → FinerRelayed
finer_relayed_with lab H n a h r own =
    let host = known_by H n h.six in
    let client = known_by_relay H h.relay own in
    let asked = asks_at lab a in
    record {
      on = is_on lab H n a;
      fresh = is_fresh (now H) host;
      at_server = is_at_server lab host.trusted;
      trusted = is_trusted_at r.at host;
      listed = is_listed own (now H) (clients_of H h.relay);
      relay_keeps = keeps_packets client;
      asks = must_ask H h.relay own;
      speaks = speaks_to lab H a own r.at;
      speaks_server = speaks_to lab H a own asked;
      speaks_both = speaks_to_both lab H a own asked r.at;
      let_in = is_heard_at lab H n own r.at;
      heard_once = is_heard_once_sent lab H n a own r.at asked;
      server_heard = is_heard_at lab H n own asked;
      barred = is_barred (now H) host;
      bubble_barred = is_barred (now H) client || is_barred (now H) (known_by H n r.six);
      room = has_room (peers_of H n) (now H) h.six;
      relay_room = has_room (clients_of H h.relay) (now H) own;
      room_for_relay = has_room (peers_of H n) (now H) r.six;
      room_for_both = has_room_for_both (peers_of H n) (now H) h.six r.six;
      holds_most = holds_most host;
    }

-- what the finer tables ask of a client, a native host and its relay
unfoldable pub finer_relayed : Lab → List Full → ℕ → ClientNode → NativeNode → RelayNode → FinerRelayed
finer_relayed lab H n a h r = finer_relayed_with lab H n a h r (address_at lab H n)

-- FROM THE CLIENT TO THE HOST

-- the lines of the finer table for packets to a native host, in order
abbrev pub finer_out_lines : FinerRelayed → List (Bool × Finer)
finer_out_lines a =
    (not a.on, word.off)
    ∷ (a.fresh && a.at_server, word.known)
    ∷ (a.fresh && not a.trusted, word.stale)
    ∷ (a.fresh && not a.speaks, word.moved)
    ∷ (a.fresh && not a.listed, word.stale)
    ∷ (a.fresh && not a.relay_keeps, word.within 2)
    ∷ (a.fresh, word.comes)
    ∷ (not a.speaks_both, word.moved)
    ∷ (not a.asks && not a.heard_once, word.stale)
    ∷ (a.barred || (a.asks && a.bubble_barred), word.barred)
    ∷ (not a.room || (not a.relay_room || (a.asks && not a.room_for_both)), word.full)
    ∷ (a.asks, word.within 9)
    ∷ []

-- the finer word on a packet to a native host
abbrev pub finer_out_row : FinerRelayed → Finer
finer_out_row a = first_line (finer_out_lines a) (word.within 6)

-- FROM THE HOST TO THE CLIENT

-- the lines of the finer table for packets from a native host, in order
abbrev pub finer_back_lines : FinerRelayed → List (Bool × Finer)
finer_back_lines a =
    (not a.on, word.away)
    ∷ (not a.asks && not a.let_in, word.stale)
    ∷ (a.fresh && not a.trusted, word.stale)
    ∷ (a.asks && not a.server_heard, word.unheard)
    ∷ ((a.asks && not a.speaks) || (not a.trusted && not a.speaks_server), word.moved)
    ∷ ((not a.trusted && a.barred) || (a.asks && a.bubble_barred), word.barred)
    ∷ (
      not a.relay_room || ((a.asks && not a.room_for_relay)
          || (not a.trusted && (not a.room || (a.holds_most || (a.asks && not a.room_for_both))))),
      word.full,
    )
    ∷ (a.trusted && a.asks, word.within 5)
    ∷ (a.trusted, word.within 2)
    ∷ (a.asks, word.within 9)
    ∷ []

-- the finer word on a packet from a native host
abbrev pub finer_back_row : FinerRelayed → Finer
finer_back_row a = first_line (finer_back_lines a) (word.within 6)
