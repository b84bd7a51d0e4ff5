-- The record in which a client's host hands in a packet for a native host: what holds throughout, and what the record makes.
use Rattle.theory_first_natives.proofs.Words.{Did, Entry, Full, GoesBetween, Grown, Handing, HasNoFault, Ip6, IsCalmNext, IsChained, IsEnd, IsHandedIn, IsHere, IsIp6, IsNextToNative, IsTopology, Journal, List, Settings, Settles, [], all_leaves, ap, asks_at, client, client_out, each_node, embedded, fields_in, filter_map, has_room, is_barred, is_big, is_end, is_fresh, is_global6, is_teredo, item_in, items_of, journal, known_by, length, mentions, must_ask, native, nonce_from, now, other_journal, same_ip6, send, sent, setup, subst, sym, test_bytes, udp, way_of_server, wire, words, ℕ, ◌∙◌, ◌∷◌, ◌≡◌}
use Rattle.theory_first_packets.proofs.HandedIn as handed_in
use Rattle.theory_first_natives.proofs.from_native.Trio.{Trio, IsTrio}
use Rattle.theory_first_natives.proofs.from_native.TrioStages.{test_of, reply_of, Ground}
use Rattle.theory_first_natives.proofs.from_native.TrioAfter.{TrioRecord, IsRecord, here, sends, no_relay_client, next_is}
use Rattle.theory_first_natives.proofs.from_native.ClientSteps.{another, server_far}
use Rattle.theory_first_natives.proofs.tables.Reply.{reply_goes, reply_small}
use Rattle.theory_first_natives.proofs.to_native.ToGiven as given_to
use Rattle.theory_first_natives.proofs.to_native.ToStages.{Enquiry, IsEnquiry}

-- the first record after a history, in which the client's host hands in the packet
pub record IsToStart (p : Enquiry) (H : List Full) (r : Full) : Type 0 where
  pub rules : IsTopology p.trio.lab.topology
  pub chained : IsChained p.trio.lab
  pub grown : Grown p.trio.lab (r ∷ H)
  pub next : IsNextToNative p.trio.lab H r p.trio.a.n p.trio.m p.trio.k p.trio.a.c p.trio.h p.trio.r p.trio.a.own p.packet
  pub sound : HasNoFault r
  pub nonce : p.nonce ≡ nonce_from (words p.trio.lab p.trio.a.n H)
  pub reply : p.trio.x ≡ reply_of p.trio p.nonce
  pub asks : must_ask H p.trio.k p.trio.a.own ≡ p.asks

module _ (p : Enquiry) (H : List Full) (r : Full) (start : IsToStart p H r) where
  abbrev t : Trio
  t = p.trio

  abbrev own : Ip6
  own = t.a.own

  settles : Settles t.lab H t.a.n t.a.c own
  settles = record {
    rules = start.rules;
    chained = start.chained;
    grown = start.grown.1;
    client = start.next.nodes.client;
    settled = start.next.nodes.settled;
  }

  end : IsEnd t.lab t.a.n t.a.c own
  end = is_end t.lab H t.a.n t.a.c own settles

  -- WHAT HOLDS THROUGHOUT

  six_of_host : IsIp6 t.h.six
  six_of_host = (each_node t.lab.topology t.m (native t.h) start.rules start.next.nodes.host).six

  pub is_trio : IsTrio t
  is_trio = record {
    rules = start.rules;
    chained = start.chained;
    end = end;
    client_there = start.next.nodes.client;
    kinds = start.next.nodes.settled.kinds;
    cone = start.next.nodes.settled.cone;
    native_there = start.next.nodes.host;
    relay_there = start.next.nodes.relay;
    through = start.next.nodes.through;
    packet = subst (GoesBetween t.h.six own) (sym start.reply)
        (reply_goes own t.h.six end.address.of.sixteen six_of_host p.nonce);
    small = ap (λ (z : List ℕ). is_big (fields_in z)) start.reply
        ∙ reply_small own t.h.six end.address.of.sixteen six_of_host p.nonce;
  }

  ground : Ground t H
  ground = record {
    grown = start.grown.1;
    address = start.next.nodes.settled.address;
    way = way_of_server t.lab H t.a.n t.a.c own settles;
  }

  pub is_record : IsRecord t H r
  is_record = record { trio = is_trio; ground = ground; follows = start.grown.0; sound = start.sound }

  abbrev latest : TrioRecord
  latest = record { p = t; H = H; q = r; r = is_record }

  -- THE RECORD

  abbrev y : List ℕ
  y = p.packet

  is_handed_in : IsHandedIn t.lab H r t.a.n (client t.a.c) y
  is_handed_in = record {
    rules = start.rules;
    grown = start.grown;
    there = end.there;
    own = own;
    other = t.h.six;
    handed = start.next.handed;
  }

  hand : Handing t.lab H r t.a.n (client t.a.c) y
  hand = handed_in.hand t.lab H r t.a.n (client t.a.c) y is_handed_in

  abbrev pub s : Settings
  s = setup t.lab t.a

  abbrev pub j : Journal
  j = journal t.a.n H

  abbrev pub e : Entry
  e = client_out s j (now H) y (words t.lab t.a.n H)

  pub did : Did t.lab H r t.a.n (client t.a.c) e
  did = handed_in.did t.lab H r t.a.n (client t.a.c) y is_handed_in

  pub is_enquiry : IsEnquiry p
  is_enquiry = record {
    trio = is_trio;
    reply = start.reply;
    packet = start.next.handed.packet;
    small = handed_in.small t.lab H r t.a.n (client t.a.c) y is_handed_in;
    bytes = handed_in.bytes t.lab H r t.a.n (client t.a.c) y is_handed_in;
  }

  pub for_tested : given_to.IsForTested s j (now H) y
  for_tested =
      let src = start.next.handed.packet.source in
      let dst = start.next.handed.packet.destination in
      let outside = (each_node t.lab.topology t.m (native t.h) start.rules start.next.nodes.host).outside in
      record {
        to_host = record {
          here = subst (λ (z : Ip6). IsHere s j z) (sym src) (here latest);
          one = start.next.handed.packet.packet;
          short = is_enquiry.small;
          plain = start.next.handed.packet.no_bubble;
          global = ap is_global6 dst ∙ outside.global;
          native = ap is_teredo dst ∙ outside.other;
          another = ap (λ (z : Ip6). same_ip6 z (fields_in y).src) dst ∙ ap (same_ip6 t.h.six) src ∙ another latest t.h.six outside.other;
        };
        stale = ap (λ (z : Ip6). is_fresh (now H) (known_by H t.a.n z)) dst ∙ start.next.nodes.stale;
        unbarred = ap (λ (z : Ip6). is_barred (now H) (known_by H t.a.n z)) dst ∙ start.next.nodes.unbarred;
        nothing_waits = ap (λ (z : Ip6). (known_by H t.a.n z).waiting) dst ∙ start.next.nodes.nothing_waits;
        room = ap (λ (z : Ip6). has_room (mentions j.entries) (now H) z) dst ∙ start.next.nodes.host_room;
      }

  pub asked : given_to.AsksFirst s j (now H) y (words t.lab t.a.n H) for_tested e
  asked = given_to.asks_first s j (now H) y (words t.lab t.a.n H) for_tested

  made : r.made ≡ sent (udp (embedded own) (asks_at t.lab t.a.c) (test_of t p.nonce)) ∷ []
  made = (all_leaves (sends latest e did) (send (asks_at t.lab t.a.c) (test_of t p.nonce) ∷ [])
      (asked.sends
      ∙ ap (λ (z : Ip6). send (asks_at t.lab t.a.c) (test_bytes z (fields_in y).dst (nonce_from (words t.lab t.a.n H))) ∷ []) start.next.handed.packet.source
      ∙ ap (λ (z : Ip6). send (asks_at t.lab t.a.c) (test_bytes own z (nonce_from (words t.lab t.a.n H))) ∷ []) start.next.handed.packet.destination
      ∙ ap (λ (n : ℕ). send (asks_at t.lab t.a.c) (test_bytes own t.h.six n) ∷ []) (sym start.nonce))
      (server_far latest, tt)).made

  pub items : items_of r ≡ udp (embedded own) (asks_at t.lab t.a.c) (test_of t p.nonce) ∷ []
  items = ap (filter_map item_in) made

  pub calm_next : IsCalmNext t.lab H r
  calm_next = next_is latest hand.calm did.moment

  pub relay_stays : journal t.k (r ∷ H) ≡ journal t.k H
  relay_stays = other_journal t.lab H r t.a.n t.k did.node (λ same. no_relay_client latest (sym same))

  -- its entry comes behind the wire
  pub number : r.first ≡ length (wire H)
  number = handed_in.number t.lab H r t.a.n (client t.a.c) y is_handed_in
