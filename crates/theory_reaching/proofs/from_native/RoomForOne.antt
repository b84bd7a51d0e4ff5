-- A native host's packet for a client that has room for the host or for its relay, but not for both: once the relay is answered there is
-- no room for the host.
use Rattle.theory_reaching.proofs.Words.{AllByRecursion, Arrival, Bool, Delivery, Entry, Full, HasNoFault, Input, Ip6, IsCalmNext, Item, Journal, List, Made, Mention, PEERS_MAX, RelaySettings, Send, ServerNode, Some, WayIn, [], address_at, ap, armed, arrival, asks_at, at_same_moment, bubble_bytes, by_way, client, client_journals, client_settings, cond, deliveries, each_so, embedded, entry_input, false, fields_in, filter_map, forwarded, from_six, has_cone, has_room, has_room_for_both, inl, inr, is_listed, is_some, is_trusted_at, item_in, items_of, journal, journal_has_few, known, length, listed, mention, mentions, nat_le, nats_of, no_ep, node_at, node_is_reached, now, outright, own_ep, refl, relay, relay_mentions, relay_settings, relay_six, server, server_ep, six, six_made, sixes_apart, subst, sym, to_server, true, udp, way_out, wire, with_entry, ℕ, ◌++◌, ◌+◌, ◌∙◌, ◌∷◌, ◌≡◌, ◌≤◌, ◌⊎◌}
use Rattle.theory_first_packets.proofs.tables.AtServer as at_server
use Rattle.theory_reaching.proofs.entries.ClientAnswers.{AnswersOnly}
use Rattle.theory_reaching.proofs.from_native.HeldUp as held_up
use Rattle.theory_reaching.proofs.from_native.HeldUp.{ForClient, given, asking, told}
use Rattle.theory_reaching.proofs.from_native.HeldUpThroughout as throughout
use Rattle.theory_reaching.proofs.from_native.HeldUpTold as told_there
use Rattle.theory_reaching.proofs.relays.NodesApart.{relay_client, client_relay, server_client, server_relay}
use Rattle.theory_reaching.proofs.entries.NoRoomLeft.{no_room_left}
use Rattle.theory_reaching.proofs.schedules.OtherRecords.{another, stays_at, way_still}
use Rattle.theory_reaching.proofs.entries.RelayAsks.{Asks, asks}
use Rattle.theory_reaching.proofs.relays.RelayEnds.{c_side, end, relay_there}
use Rattle.theory_reaching.proofs.waiting.RelayKeepsOnly.{passes_or_keeps}
use Rattle.theory_reaching.proofs.relays.RelayMade.{each_made}
use Rattle.theory_reaching.proofs.from_native.RelayTells.{may_tell, its_bubble}
use Rattle.theory_reaching.proofs.relays.Relays.{RelayedHosts, AreRelayed}
use Rattle.theory_reaching.proofs.schedules.Throughout as every
use Rattle.theory_reaching.proofs.schedules.Throughout.{Goes, none_of_new_brings, NoneBrings, OneDelivery}
use Rattle.theory_reaching.proofs.clients.Unheard.{as_listed, all_listed}

-- an entry that lists nobody leaves whether there is room for two
both_still : (e : Mention) (j : List Mention) (n : ℕ) → e.bearing.touches ≡ false → (p v : Ip6) → has_room_for_both (e ∷ j) n p v ≡ has_room_for_both j n p v
both_still e j n none p v =
    ap (λ (ps : List Ip6). nat_le (length ps + (cond (is_listed p n (e ∷ j)) 0 1 + cond (is_listed v n (e ∷ j)) 0 1)) PEERS_MAX) (all_listed e j n none)
    ∙ ap (λ (b : Bool). nat_le (length (listed j n) + (cond b 0 1 + cond (is_listed v n (e ∷ j)) 0 1)) PEERS_MAX) (as_listed e j n none p)
    ∙ ap (λ (b : Bool). nat_le (length (listed j n) + (cond (is_listed p n j) 0 1 + cond b 0 1)) PEERS_MAX) (as_listed e j n none v)

module _ (the : ForClient) (plain : has_cone (address_at the.lab the.H the.n) ≡ false) where
  open the use {lab, H, n, m, c, h, r, x, q, is_for}

  abbrev are : AreRelayed lab H n m c h r
  are = is_for.are

  abbrev own : Ip6
  own = address_at lab H n

  abbrev k : ℕ
  k = h.relay

  abbrev the_three : RelayedHosts
  the_three = record { lab = lab; H = H; n = n; m = m; c = c; h = h; r = r; are = are }

  abbrev row : ServerNode
  row = (end the_three).server_row

  abbrev relay_is : node_at lab.topology k ≡ Some (relay r)
  relay_is = relay_there the_three

  abbrev IsOnWay : Item → Type 0
  IsOnWay = held_up.IsOnWay the true

  -- before the client answers
  pub data IsEarly (y : Item) : Type 0 where
    at_relay : y ≡ six (Some h.relay) x → IsEarly y
    at_its_server : y ≡ udp r.at (server_ep row.primary) (bubble_bytes r.six own) → IsEarly y
    at_client : y ≡ udp (server_ep row.primary) (embedded own) (forwarded (Some r.at) (bubble_bytes r.six own)) → IsEarly y

  on_way : (y : Item) → IsEarly y → IsOnWay y
  on_way y (at_relay is) = given is
  on_way y (at_its_server is) = asking refl is
  on_way y (at_client is) = told refl is

  abbrev AtRelay : Journal → ℕ → Type 0
  AtRelay = held_up.AtRelay the true true

  abbrev Mistrusted : Journal → ℕ → Type 0
  Mistrusted = held_up.Mistrusted the true

  abbrev pub Untrusted : Journal → ℕ → Type 0
  Untrusted u t = is_some (known (relay_mentions u.entries) t own).trusted ≡ false

  abbrev pub NoRoom : Journal → ℕ → Type 0
  NoRoom u t = has_room_for_both (mentions u.entries) t r.six h.six ≡ false

  abbrev EachEarly : List Full → Type 0
  EachEarly = every.Each lab H q n (client c) x IsEarly (λ (G : List Full). Unit {0})

  pub record IsUnanswered (G : List Full) : Type 0 where
    pub each : EachEarly G
    pub waits : AtRelay (journal k G) (now G)
    pub untrusted : Untrusted (journal k G) (now G)
    pub both : NoRoom (journal n G) (now G)
    pub mistrusted : Mistrusted (journal n G) (now G)
    pub way : WayIn lab G (asks_at lab c) (nats_of lab c) c.inside (embedded own)

  -- then there is no room for the host
  pub data IsCrowded (G : List Full) : Type 0 where
    unanswered : IsUnanswered G → IsCrowded G
    held_back : held_up.IsHeldUp the true G → IsCrowded G

  abbrev EarlyMade : Full → Type 0
  EarlyMade p = AllByRecursion IsEarly (items_of p)

  more : (G : List Full) (p : Full) → EarlyMade p → EachEarly G → EachEarly (p ∷ G)
  more = every.more lab H q n (client c) x IsEarly (λ (G : List Full). Unit {0})

  -- the record p after G is of another node than the relay and the client
  pub record IsOfAnother (G : List Full) (p : Full) : Type 0 where
    pub next : IsCalmNext lab G p
    pub a : ℕ
    pub node : p.node ≡ Some a
    pub no_relay : a ≡ k → ⊥
    pub no_client : a ≡ n → ⊥

  pub still_unanswered : (G : List Full) (p : Full) → IsOfAnother G p → EachEarly (p ∷ G)
      → AtRelay (journal k G) (now G) → Untrusted (journal k G) (now G) → NoRoom (journal n G) (now G) → Mistrusted (journal n G) (now G)
      → WayIn lab G (asks_at lab c) (nats_of lab c) c.inside (embedded own) → IsUnanswered (p ∷ G)
  still_unanswered G p other each waits untrusted both mistrusted way = record {
    each = each;
    waits = stays_at lab k AtRelay G p other.a other.next.moment other.node other.no_relay waits;
    untrusted = stays_at lab k Untrusted G p other.a other.next.moment other.node other.no_relay untrusted;
    both = stays_at lab n NoRoom G p other.a other.next.moment other.node other.no_client both;
    mistrusted = stays_at lab n Mistrusted G p other.a other.next.moment other.node other.no_client mistrusted;
    way = way_still lab c own G p other.next way;
  }

  -- A DELIVERY

  module _ (this : OneDelivery lab) (sound : HasNoFault this.p) (early : IsUnanswered this.G) where
    open this use {G, p, serial, y, g, delivered, at}

    abbrev Result : Type 0
    Result = Goes lab H q n (client c) x IsOnWay IsCrowded G p

    abbrev delivery : Delivery lab G p serial
    delivery = deliveries lab G p serial g delivered

    module _ (is : y ≡ six (Some h.relay) x) where
      came : Arrival lab G p k (relay r) (six (Some h.relay) x)
      came = arrival lab G p serial delivery (record {
        number = k;
        node = relay r;
        item = six (Some h.relay) x;
        at = at ∙ ap (λ (u : Item). Some u) is;
        goes = node_is_reached lab G (now G) (six (Some h.relay) x) k (relay r) are.rules relay_is refl;
      })

      abbrev s : RelaySettings
      s = relay_settings lab.topology k r

      abbrev j : List Entry
      j = (journal k G).entries

      abbrev done : Entry
      done = relay_six s j (now G) x

      unknown : is_some (known (relay_mentions j) (now G) (fields_in x).dst).trusted ≡ false
      unknown = ap (λ (d : Ip6). is_some (known (relay_mentions j) (now G) d).trusted) is_for.packet.destination ∙ early.untrusted

      asked : Asks s j (now G) x is_for.packet.packet unknown done
      asked = asks s j (now G) x is_for.packet.packet unknown (inl (ap has_cone is_for.packet.destination ∙ plain))

      its_input : done.input ≡ from_six x
      its_input = entry_input lab G (now G) k no_ep (from_six x) (relay r)

      all_early : EarlyMade p
      all_early = subst (λ (ms : List Made). AllByRecursion IsEarly (filter_map item_in ms)) (sym (came.did.made
          ∙ ap (λ (u : Input). outright (own_ep (relay r)) (armed G) 0 done.step.sends ++ six_made u done.step.six) its_input))
          (each_made IsEarly r (armed G) 0 done.step.sends (six_made (from_six x) done.step.six)
          (each_so (λ u same. at_its_server (ap (λ (v : Send). udp r.at v.to v.bytes)
          (same ∙ its_bubble the_three (fields_in x).dst is_for.packet.destination))) done.step.sends asked.sends) tt)

      relay_asks : Result
      relay_asks = record {
        made = each_so on_way (items_of p) all_early;
        stays = unanswered (record {
          each = more G p all_early early.each;
          waits = at_same_moment AtRelay G p k (with_entry (journal k G) done) came.did.moment came.did.later
              ((passes_or_keeps s j (now G) x is_for.packet.packet).waits own early.waits);
          untrusted = at_same_moment Untrusted G p k (with_entry (journal k G) done) came.did.moment came.did.later
              (ap (λ (d : Ip6). is_some (known (relay_mentions (done ∷ j)) (now G) d).trusted) (sym is_for.packet.destination) ∙ asked.untrusted);
          both = stays_at lab n NoRoom G p k came.did.moment came.did.node (relay_client the_three) early.both;
          mistrusted = stays_at lab n Mistrusted G p k came.did.moment came.did.node (relay_client the_three)
              early.mistrusted;
          way = way_still lab c own G p (record { follows = g.0; calm = came.calm; moment = came.did.moment }) early.way;
        });
        silent = λ b. another p k n came.did.node (relay_client the_three) b.node;
      }

    module _ (is : y ≡ udp r.at (server_ep row.primary) (bubble_bytes r.six own)) where
      to_its_server : Arrival lab G p c.server (server row) (udp r.at (server_ep row.primary) (bubble_bytes r.six own))
      to_its_server = arrival lab G p serial delivery (record {
        number = c.server;
        node = server row;
        item = udp r.at (server_ep row.primary) (bubble_bytes r.six own);
        at = at ∙ ap (λ (u : Item). Some u) is;
        goes = to_server lab are.rules G c.server row r.at (bubble_bytes r.six own) (end the_three).server_is;
      })

      told_early : EarlyMade p
      told_early = subst (λ (ms : List Made). AllByRecursion IsEarly (filter_map item_in ms)) (sym (at_server.passes_on (record {
        lab = lab;
        a = c_side the_three;
        end = end the_three;
        peer = r.six;
        from = r.at;
        may = may_tell the_three;
      }) G p
          (server_ep row.primary) to_its_server.did sound)) (at_client refl, tt)

      server_tells : Result
      server_tells =
          let d = to_its_server.did in
          record {
            made = each_so on_way (items_of p) told_early;
            stays = unanswered (still_unanswered G p (record {
              next = record { follows = g.0; calm = to_its_server.calm; moment = d.moment };
              a = c.server;
              node = d.node;
              no_relay = server_relay the_three;
              no_client = server_client the_three;
            }) (more G p told_early early.each) early.waits
                early.untrusted early.both early.mistrusted early.way);
            silent = λ b. another p c.server n d.node (server_client the_three) b.node;
          }

    module _ (is : y ≡ udp (server_ep row.primary) (embedded own) (forwarded (Some r.at) (bubble_bytes r.six own))) where
      abbrev here : Arrival lab G p n (client c) (udp (server_ep row.primary) (embedded own) (forwarded (Some r.at) (bubble_bytes r.six own)))
      here = told_there.to_the_client the true this sound early.way refl is

      abbrev got : Entry
      got = told_there.got the true this sound early.way refl is

      abbrev answered : AnswersOnly (journal n G) (now G) own r.six r.at got
      answered = told_there.answered the true this sound early.way refl is

      still_mistrusted : Mistrusted (with_entry (journal n G) got) (now G)
      still_mistrusted = ap (is_trusted_at r.at)
          (told_there.as_known the true this sound early.way refl is) ∙ early.mistrusted

      next : IsCalmNext lab G p
      next = record { follows = g.0; calm = here.calm; moment = here.did.moment }

      few : length (listed (mentions (journal n G).entries) (now G)) ≤ PEERS_MAX
      few = let of = client_journals lab G n c g.1 are.client_is in journal_has_few (client_settings lab.topology c) (journal n G) (now G) of.journal of.moments

      client_does : Result
      client_does = record {
        made = told_there.made_at_client the true this sound early.way refl is;
        stays = by answered.lists;
        silent = told_there.silent_at_client the true this sound early.way refl is;
      } where
        by : ((got.step.sends ≡ []) × ((mention got).bearing.touches ≡ false))
            ⊎ ((has_room (mentions (journal n G).entries) (now G) r.six ≡ true) × ((mention got).bearing.touches ≡ true)) → IsCrowded (p ∷ G)
        by (inl quiet) = unanswered (record {
          each = more G p (subst (λ (ms : List Made). AllByRecursion IsEarly (filter_map item_in ms)) (sym (here.did.made
              ∙ ap (λ (us : List Send). (by_way lab G (now G) (way_out lab.chain c.nat) c.inside (armed G) 0 [] us).made) quiet.0)) tt) early.each;
          waits = stays_at lab k AtRelay G p n here.did.moment here.did.node (client_relay the_three) early.waits;
          untrusted = stays_at lab k Untrusted G p n here.did.moment here.did.node (client_relay the_three) early.untrusted;
          both = at_same_moment NoRoom G p n (with_entry (journal n G) got) here.did.moment here.did.later
              (ap (λ (ms : List Mention). has_room_for_both ms (now G) r.six h.six) answered.then
              ∙ both_still (mention got) (mentions (journal n G).entries) (now G) quiet.1 r.six h.six ∙ early.both);
          mistrusted = at_same_moment Mistrusted G p n (with_entry (journal n G) got) here.did.moment here.did.later still_mistrusted;
          way = way_still lab c own G p next early.way;
        })
        by (inr listed_now) = held_back (record {
          waits = stays_at lab k AtRelay G p n here.did.moment here.did.node (client_relay the_three) early.waits;
          closed = at_same_moment (held_up.Closed the true) G p n (with_entry (journal n G) got) here.did.moment here.did.later
              (inl (inr (ap (λ (ms : List Mention). has_room ms (now G) h.six) answered.then
              ∙ no_room_left (mention got) (mentions (journal n G).entries) (now G) r.six answered.about listed_now.1 answered.moment h.six
              (sixes_apart lab.topology are.rules k m r h relay_is are.host_is) few listed_now.0 early.both)));
          mistrusted = at_same_moment Mistrusted G p n (with_entry (journal n G) got) here.did.moment here.did.later still_mistrusted;
          way = way_still lab c own G p next early.way;
        })

    of_early : IsEarly y → Result
    of_early (at_relay is) = relay_asks is
    of_early (at_its_server is) = server_tells is
    of_early (at_client is) = client_does is

  step : every.StepOfNew lab H q n (client c) x IsOnWay IsCrowded
  step this new sound is (unanswered early) = of_early this sound early (early.each this.serial this.y new this.at)
  step this new sound is (held_back up) =
      let goes = throughout.step the true this sound up is in
      record { made = goes.made; stays = held_back goes.stays; silent = goes.silent }

  -- so no delivery brings it
  pub none_come : q.first ≡ length (wire H) → EarlyMade q → IsUnanswered (q ∷ H) → NoneBrings lab H q n (client c) x
  none_come number all first = none_of_new_brings lab H q n (client c) x IsOnWay IsCrowded step number (each_so on_way (items_of q) all)
      (unanswered first)

  pub first_early : q.first ≡ length (wire H) → EarlyMade q → EachEarly (q ∷ H)
  first_early = every.at_first lab H q n (client c) x IsEarly (λ (G : List Full). Unit {0})
