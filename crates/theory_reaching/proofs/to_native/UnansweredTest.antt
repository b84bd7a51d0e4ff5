-- A client's packet for a native host that isn't fresh, where the relay must ask for the client and gets no answer: the reply to the
-- client's test stays at the relay, so the packet never leaves.
use Rattle.theory_reaching.proofs.Words.{AreFresh, Bool, Full, Grown, HasNoFault, Ip6, Item, Journal, List, None, PEERS_MAX, Send, Settings, SomeBrings, [], address_at, alone, and_left, ap, armed, at_same_moment, by_way, client_journals, client_out, client_settings, each_so, embedded, false, false≢true, fields_in, has_cone, has_room, has_room_for_both, inl, inr, is_barred, is_some, is_teredo, items_of, journal, journal_has_few, known, length, listed, mentions, native, now, other_way, refl, relay_mentions, same_ip6, server_ep, six, sixes_apart, subst, sym, true, udp, way_out, with_entry, words, ℕ, ◌&&◌, ◌++◌, ◌∙◌, ◌∷◌, ◌≡◌, ◌≤◌, ◌⊎◌}
use Rattle.theory_reaching.proofs.entries.HostAsks.{silent_or_no_room}
use Rattle.theory_reaching.proofs.to_native.TestItems as at_nodes
use Rattle.theory_reaching.proofs.to_native.TestItems.{to_its_server, to_host}
use Rattle.theory_reaching.proofs.to_native.TestUnlike as unlike
use Rattle.theory_reaching.proofs.to_native.TestUnlike.{IsNoTest}
use Rattle.theory_reaching.proofs.to_native.TestsOut as out
use Rattle.theory_reaching.proofs.to_native.TestsOut.{AskingHost, server_row, test, number}
use Rattle.theory_reaching.proofs.schedules.Throughout.{Goes, none_brings, NoneBrings, OneDelivery}
use Rattle.theory_reaching.proofs.to_native.Unanswered.{IsVain, for_client, IsUnheard, step, still_unheard, Untrusted, RelayClosed, ClientClosed, ClosedBy}
use Rattle.theory_reaching.proofs.schedules.OtherRecords.{stays_at, way_still}
use Rattle.theory_reaching.proofs.relays.NodesApart.{client_relay, server_client, server_relay, native_relay, native_client}
use Rattle.theory_reaching.proofs.entries.HostMentions.{barred_after_host}
use Rattle.theory_reaching.proofs.entries.RelayMute.{IsClosedTo}
use Rattle.theory_reaching.proofs.relays.RelayEnds.{way, relay_there}
use Rattle.theory_reaching.proofs.relays.Relays.{RelayedHosts}

module _ (the : AskingHost) (hushed : Bool) (plain : hushed ≡ false → has_cone (address_at the.lab the.H the.n) ≡ false)
    (no_request : IsNoTest the.lab the.H the.n the.h the.x) where
  open the use {lab, H, q, n, m, c, h, r, x, asks}

  abbrev own : Ip6
  own = address_at lab H n

  abbrev the_three : RelayedHosts
  the_three = record { lab = lab; H = H; n = n; m = m; c = c; h = h; r = r; are = asks.are }

  abbrev IsAtRelay : Item → Type 0
  IsAtRelay = IsVain (record { the = the_three; hushed = hushed; plain = plain })

  abbrev IsShut : List Full → Type 0
  IsShut = IsUnheard (record { the = the_three; hushed = hushed; plain = plain })

  -- the test to the client's server, and from there to the host; or what is for the client, at the relay
  pub data IsAsked (y : Item) : Type 0 where
    asking : y ≡ udp (embedded own) (server_ep (server_row the).primary) (test the)
        → IsAsked y
    tested : y ≡ six None (test the) → IsAsked y
    in_vain : IsAtRelay y → IsAsked y

  module _ (this : OneDelivery lab) (sound : HasNoFault this.p) (shut : IsShut this.G) where
    open this use {G, p, y, g}

    abbrev Result : Type 0
    Result = Goes lab H q m (native h) x IsAsked IsShut G p

    goes_on : IsAsked y → Result
    goes_on (asking is) =
        let d = to_its_server the this is in
        record {
          made = at_nodes.passed_on the this is IsAsked (tested refl);
          stays = still_unheard (record { the = the_three; hushed = hushed; plain = plain }) G p (record { follows = g.0; calm = d.calm; moment = d.did.moment }) c.server
              d.did.node (server_relay the_three) (server_client the_three) shut;
          silent = unlike.silent the no_request this (out.asking is);
        }
    goes_on (tested is) =
        let d = to_host the this is in
        record {
          made = at_nodes.answered the this is IsAsked (λ z to_own. in_vain (for_client z refl to_own));
          stays = still_unheard (record { the = the_three; hushed = hushed; plain = plain }) G p (record { follows = g.0; calm = d.calm; moment = d.did.moment }) m
              d.did.node (native_relay the_three) (native_client the_three) shut;
          silent = unlike.silent the no_request this (out.tested is);
        }
    goes_on (in_vain is) =
        let ends = step (record { the = the_three; hushed = hushed; plain = plain }) this sound shut is in
        record { made = each_so (λ z such. in_vain such) (items_of p) ends.made; stays = ends.stays; silent = λ b. ends.native b.node }

  -- AFTER THE PACKET'S RECORD

  abbrev k : ℕ
  k = h.relay

  at_first : ClosedBy (record { the = the_three; hushed = hushed; plain = plain }) hushed (q ∷ H) → Untrusted (record { the = the_three; hushed = hushed; plain = plain }) (journal k H) (now H)
      → IsShut (q ∷ H)
  at_first closed untrusted = record {
    untrusted = stays_at lab k (Untrusted (record { the = the_three; hushed = hushed; plain = plain })) H q n
        (out.next the).moment (out.did the).node
        (client_relay the_three) untrusted;
    closed = closed;
    way = way_still lab c (address_at lab H n) H q (out.next the)
        (way the_three);
  }

  -- so no delivery brings it
  none_come : ClosedBy (record { the = the_three; hushed = hushed; plain = plain }) hushed (q ∷ H) → Untrusted (record { the = the_three; hushed = hushed; plain = plain }) (journal k H) (now H)
      → NoneBrings lab H q m (native h) x
  none_come closed untrusted = none_brings lab H q m (native h) x IsAsked IsShut
      (λ this sound is shut. goes_on this sound shut is) (number the)
      (out.all_made the IsAsked (asking refl)) (at_first closed untrusted)

-- WHY IT GETS NO ANSWER

module _ (the : AskingHost) (no_request : IsNoTest the.lab the.H the.n the.h the.x)
    (untrusted : is_some (known (relay_mentions (journal the.h.relay the.H).entries) (now the.H) (address_at the.lab the.H the.n)).trusted ≡ false) where
  open the use {lab, H, q, n, m, c, h, r, x, asks}

  abbrev NoneCome : List Full → Type 0
  NoneCome later = Grown lab (later ++ q ∷ H) → AreFresh q later → SomeBrings m (native h) x later → ⊥

  abbrev no_cone : true ≡ false → has_cone (address_at lab H n) ≡ false
  no_cone e = absurd (false≢true (sym e))

  -- the relay is closed to the client
  pub relay_is_closed : IsClosedTo (has_cone (address_at lab H n))
      (is_barred (now H) (known (relay_mentions (journal h.relay H).entries) (now H) (address_at lab H n)))
      (has_room (relay_mentions (journal h.relay H).entries) (now H) (address_at lab H n)) → (later : List Full) → NoneCome later
  relay_is_closed closed = none_come the true no_cone no_request
      (stays_at lab h.relay (RelayClosed (record { the = record { lab = lab; H = H; n = n; m = m; c = c; h = h; r = r; are = asks.are }; hushed = true; plain = no_cone })) H q n
      (out.next the).moment (out.did the).node
      (client_relay (record { lab = lab; H = H; n = n; m = m; c = c; h = h; r = r; are = asks.are })) closed) untrusted

  -- the client is barred for the relay
  pub client_is_barred : has_cone (address_at lab H n) ≡ false → is_barred (now H) (known (mentions (journal n H).entries) (now H) r.six) ≡ true
      → (later : List Full) → NoneCome later
  client_is_barred plain barred =
      let d = out.did the in
      none_come the false (λ _. plain) no_request
      (at_same_moment (ClientClosed (record { the = record { lab = lab; H = H; n = n; m = m; c = c; h = h; r = r; are = asks.are }; hushed = false; plain = λ _. plain })) H q n
      (with_entry (journal n H) (client_out (client_settings lab.topology c) (journal n H) (now H) x (words lab n H))) d.moment d.later
      (inl (barred_after_host (client_settings lab.topology c) (journal n H) (now H) x (words lab n H) r.six barred))) untrusted

  -- the client has no room for both the host and the relay
  pub no_room_for_both : has_cone (address_at lab H n) ≡ false → has_room (mentions (journal n H).entries) (now H) h.six ≡ true
      → has_room_for_both (mentions (journal n H).entries) (now H) h.six r.six ≡ false → (later : List Full) → NoneCome later
  no_room_for_both plain room both later g fresh =
      by (silent_or_no_room s j (now H) x (words lab n H) asks.handed.packet.packet plain_host r.six apart few
      (ap (has_room (mentions j.entries) (now H)) goes ∙ room)
      (ap (λ (z : Ip6). has_room_for_both (mentions j.entries) (now H) z r.six) goes ∙ both)) where
        s : Settings
        s = client_settings lab.topology c

        j : Journal
        j = journal n H

        goes : (fields_in x).dst ≡ h.six
        goes = asks.handed.packet.destination

        plain_host : (is_teredo (fields_in x).dst && has_cone (fields_in x).dst) ≡ false
        plain_host = and_left (is_teredo (fields_in x).dst) (has_cone (fields_in x).dst)
            (ap is_teredo goes ∙ out.native_is the)

        apart : same_ip6 (fields_in x).dst r.six ≡ false
        apart = ap (λ (z : Ip6). same_ip6 z r.six) goes
            ∙ other_way r.six h.six (sixes_apart lab.topology asks.are.rules h.relay m r h (relay_there (record { lab = lab; H = H; n = n; m = m; c = c; h = h; r = r; are = asks.are })) asks.are.host_is)

        few : length (listed (mentions (journal n H).entries) (now H)) ≤ PEERS_MAX
        few = let is = client_journals lab H n c asks.are.grown asks.are.client_is in journal_has_few s (journal n H) (now H) is.journal is.moments

        alone_so : later ≡ [] → SomeBrings m (native h) x later → ⊥
        alone_so same come = subst (SomeBrings m (native h) x) same come

        by : ((client_out s j (now H) x (words lab n H)).step.sends ≡ [])
            ⊎ (has_room (mentions (client_out s j (now H) x (words lab n H) ∷ j.entries)) (now H) r.six ≡ false)
            → SomeBrings m (native h) x later → ⊥
        by (inl silent) = alone_so (alone lab H q asks.grown ((out.did the).made
            ∙ ap (λ (z : List Send). (by_way lab H (now H) (way_out lab.chain c.nat) c.inside (armed H) 0 [] z).made) silent) later g fresh)
        by (inr full) =
            let d = out.did the in
            none_come the false (λ _. plain) no_request
            (at_same_moment (ClientClosed (record { the = record { lab = lab; H = H; n = n; m = m; c = c; h = h; r = r; are = asks.are }; hushed = false; plain = λ _. plain })) H q n
            (with_entry (journal n H) (client_out (client_settings lab.topology c) (journal n H) (now H) x (words lab n H))) d.moment d.later (inr full))
            untrusted later g fresh
