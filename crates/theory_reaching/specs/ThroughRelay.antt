-- A client, a host of the IPv6 Internet and its relay: what the lines on packets between the two ask (RFC 4380, section 5.4).
use Rattle.std.specs.Prelude.{ℕ, ◌&&◌, ◌||◌, List}
use Rattle.td_base.specs.declared.ipv6.Ip6.{Ip6}
use Rattle.teredo_addr.specs.Teredo.{embedded}
use Rattle.peer_list.specs.Listed.{is_listed, has_room}
use Rattle.peer_list.specs.Judged.{is_fresh, is_trusted_at, is_barred, holds_most}
use Rattle.topology.specs.declared.client_node.ClientNode.{ClientNode}
use Rattle.topology.specs.declared.relay_node.RelayNode.{RelayNode}
use Rattle.topology.specs.declared.native_node.NativeNode.{NativeNode}
use Rattle.history.specs.Full.{Full}
use Rattle.legal.specs.Lab.{Lab}
use Rattle.legal.specs.Past.{now}
use Rattle.legal.specs.Next.{address_at}
use Rattle.theory_first_packets.specs.MayMeet.{known_by}
use Rattle.theory_first_natives.specs.MayMeetThroughRelay.{known_by_relay, trusts_client, must_ask}
pub use Rattle.theory_reaching.specs.declared.relay_table.Relayed.{Relayed}
use Rattle.theory_settled.specs.Clients.{asks_at}
use Rattle.theory_reaching.specs.Speaks.{speaks_to}
use Rattle.theory_reaching.specs.Conditions.{is_on, is_led_to, is_settled, peers_of, clients_of, keeps_packets, has_room_for_both}

-- client n, which is c, with this address, and native h with its relay, which is r
abbrev pub relayed_with : Lab → List Full → ℕ → ClientNode → NativeNode → RelayNode → (own : Ip6) → Relayed
relayed_with lab H n c h r own =
    let host = known_by H n h.six in
    let client = known_by_relay H h.relay own in
    record {
      on = is_on lab H n c;
      settled = is_settled lab H n c;
      speaks = speaks_to lab H c own r.at;
      speaks_server = speaks_to lab H c own (asks_at lab c);
      fresh = is_fresh (now H) host;
      trusted = is_trusted_at r.at host;
      listed = is_listed own (now H) (clients_of H h.relay);
      trusts = trusts_client H h.relay own;
      let_in = is_led_to lab H r.at (embedded own) n;
      asks = must_ask H h.relay own;
      barred = is_barred (now H) host;
      bubble_barred = is_barred (now H) client || is_barred (now H) (known_by H n r.six);
      room = has_room (peers_of H n) (now H) h.six && has_room (clients_of H h.relay) (now H) own;
      room_for_both = has_room_for_both (peers_of H n) (now H) h.six r.six;
      holds_most = holds_most host;
      relay_keeps = keeps_packets client;
    }

-- what is asked of a client, a native host and its relay, after a history
unfoldable pub relayed : Lab → List Full → ℕ → ClientNode → NativeNode → RelayNode → Relayed
relayed lab H n c h r = relayed_with lab H n c h r (address_at lab H n)
