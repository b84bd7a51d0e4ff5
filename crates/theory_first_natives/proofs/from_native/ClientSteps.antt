-- The steps at the client: what a delivery to it leaves.
use Rattle.theory_first_natives.proofs.Words.{AllByRecursion, Arrival, At, Bool, ComesIn, Delivery, Did, Entry, Ep, Ip4, Ip6, IsElsewhere, IsHere, Journal, List, None, ReadsPayload, Send, Settings, Some, [], address_stays, all_leaves, ap, arrival, asks_at, client, client_in, each_is_reached, embedded, false, false_from_ne_true, false≢true, fields_in, from_no_server, has_room, holds_most, is_big, is_bubble, is_echo_reply, is_from_server, is_global6, is_teredo, is_trusted_at, journal, known, mentions, message_in, nats_of, nonce_from, now, qualification, refl, releases, same_ip6, same_ip6-true, says_nothing, send, sent, server_elsewhere, setup, subst, sym, test_bytes, true, turn, udp, value_written, with_entry, words, ℕ, ◌∙◌, ◌∷◌, ◌≡◌}
use Rattle.theory_first_natives.proofs.tables.ClientTests as tests
use Rattle.theory_first_natives.proofs.tables.ClientTests.{IsFromNative, IsTestable, MayBeTested}
use Rattle.theory_first_natives.proofs.tables.ClientHands as hands
use Rattle.theory_first_natives.proofs.tables.FromTrusted.{IsFromTrusted}
use Rattle.theory_first_natives.proofs.tables.NativeReads.{answer}
use Rattle.theory_first_natives.proofs.tables.NativeTables.{tested_by}
use Rattle.theory_first_natives.proofs.from_native.Trio.{IsTrio, no_primary, no_secondary, native_keeps, relay_elsewhere}
use Rattle.theory_first_natives.proofs.from_native.TrioStages.{HostStays, leaves_for_relay}
use Rattle.theory_first_natives.proofs.from_native.TrioAfter.{TrioRecord, here, let_in, sends}

module _ (the : TrioRecord) where
  open the use {p, H, q, r}

  abbrev is : IsTrio p
  is = r.trio

  abbrev s : Settings
  s = setup p.lab p.a

  abbrev own : Ip6
  own = p.a.own

  abbrev j : Journal
  j = journal p.a.n H

  -- what is let in to the client comes to it
  pub comes_to_client : (last : ℕ) (src : Ep) (x : List ℕ) → Delivery p.lab H q last → At H last src (embedded own) x → ComesIn p.lab H src p.a
      → Arrival p.lab H q p.a.n (client p.a.c) (udp src (embedded own) x)
  comes_to_client last src x d at way = arrival p.lab H q last d (record {
    number = p.a.n;
    node = client p.a.c;
    item = udp src (embedded own) x;
    at = at;
    goes = each_is_reached p.lab H (now H) (udp src (embedded own) x) p.a.n (client p.a.c) is.rules is.end.there (let_in the src way);
  })

  -- the relay isn't the client's server
  no_server : is_from_server s p.r.at ≡ false
  no_server = from_no_server p.lab p.a is.end p.r.at (no_primary p is) (no_secondary p is)

  -- no NAT of the client's way has its server's address
  pub server_far : IsElsewhere p.lab s.primary (nats_of p.lab p.a.c)
  server_far = subst (λ (ip : Ip4). IsElsewhere p.lab ip (nats_of p.lab p.a.c)) is.end.address.of.server_is
      (server_elsewhere (record { lab = p.lab; is = is.rules; a = p.a; b = p.a; an = is.end; bn = is.end }))

  -- an address outside Teredo isn't the client's
  pub another : (ip : Ip6) → is_teredo ip ≡ false → same_ip6 ip own ≡ false
  another ip native = false_from_ne_true (same_ip6 ip own) (λ h. false≢true (sym native ∙ ap is_teredo (same_ip6-true ip own h) ∙ is.end.address.of.teredo))

  -- A PACKET OF THE NATIVE, FROM THE RELAY

  -- a packet of the host to the client, which is not too big
  pub record FromHost : Type 0 where
    pub x : List ℕ
    pub src : (fields_in x).src ≡ p.h.six
    pub dst : (fields_in x).dst ≡ own
    pub little : is_big (fields_in x) ≡ false

  -- as which x is read: it is from the native to the client
  module _ (from_host : FromHost) where
    open from_host use {x, src, dst, little}

    pub from_native : IsFromNative s j p.r.at (fields_in x)
    from_native = record {
      here = subst (λ (z : Ip6). IsHere s j z) (sym dst) (here the);
      elsewhere = no_server;
      native = ap is_teredo src ∙ (native_keeps p is).outside.other;
      global = ap is_global6 src ∙ (native_keeps p is).outside.global;
      other = ap (λ (z : Ip6). same_ip6 z (fields_in x).dst) src ∙ ap (same_ip6 p.h.six) dst
          ∙ another p.h.six (native_keeps p is).outside.other;
      small = little;
    }

    abbrev pub got : Entry
    got = client_in s j (now H) p.r.at x (words p.lab p.a.n H)

    abbrev pub nonce : ℕ
    nonce = nonce_from (words p.lab p.a.n H)

    -- what is known of the packet's source
    pub peer_is : HostStays p H → known (mentions j.entries) (now H) (fields_in x).src ≡ p.of_host
    peer_is host = ap (λ (z : Ip6). known (mentions j.entries) (now H) z) src ∙ host.same

    testable : HostStays p H → is_trusted_at p.r.at p.of_host ≡ false → is_bubble (fields_in x) ≡ false
        → is_echo_reply (message_in (fields_in x)) ≡ false → IsTestable (record { s = s; j = j; n = now H; at = p.r.at; p = fields_in x; is = from_native }) (holds_most p.of_host)
    testable host untrusted plain no_reply = record {
      untrusted = ap (is_trusted_at p.r.at) (peer_is host) ∙ untrusted;
      may = subst (MayBeTested (now H)) (sym (peer_is host)) (host.may_test untrusted);
      kept = ap holds_most (peer_is host);
      room = ap (λ (z : Ip6). has_room (mentions j.entries) (now H) z) src ∙ host.room;
      no_bubble = plain;
      no_reply = no_reply;
    }

    -- a test goes to the client's server
    pub tests_native : Did p.lab H q p.a.n (client p.a.c) got → HostStays p H → is_trusted_at p.r.at p.of_host ≡ false → is_bubble (fields_in x) ≡ false
        → is_echo_reply (message_in (fields_in x)) ≡ false → ReadsPayload (value_written None None (fields_in x)) x
        → (q.made ≡ sent (udp (embedded own) (asks_at p.lab p.a.c) (test_bytes own p.h.six nonce)) ∷ [])
        × tests.TestsIt (record { s = s; j = j; n = now H; at = p.r.at; p = fields_in x; is = from_native }) (holds_most p.of_host) x nonce got
        × ((qualification s (with_entry j got)).address ≡ (qualification s j).address)
    tests_native did host untrusted plain no_reply payload =
        let g = tests.tests_it (record { s = s; j = j; n = now H; at = p.r.at; p = fields_in x; is = from_native }) (testable host untrusted plain no_reply) payload
        (words p.lab p.a.n H) in
        let gone = all_leaves (sends the got did) (send (asks_at p.lab p.a.c) (test_bytes own p.h.six nonce) ∷ [])
        (g.sends ∙ ap (λ (z : Ip6). send (asks_at p.lab p.a.c) (test_bytes z (fields_in x).src nonce) ∷ []) dst
        ∙ ap (λ (z : Ip6). send (asks_at p.lab p.a.c) (test_bytes own z nonce) ∷ []) src)
        (server_far, tt) in
        (gone.made, g, address_stays s j got (ap turn g.fate ∙ says_none (holds_most p.of_host))) where
          says_none : (full : Bool) → turn (tested_by full) ≡ says_nothing
          says_none true = refl
          says_none false = refl

    -- THE REPLY TO THE TEST

    all_elsewhere : (ws : List (List ℕ)) → AllByRecursion (λ (u : Send). IsElsewhere p.lab u.to.ip (nats_of p.lab p.a.c)) (releases p.r.at ws)
    all_elsewhere [] = tt
    all_elsewhere (w ∷ ws) = (relay_elsewhere p is, all_elsewhere ws)

    -- the client believes the native, hands over what it held, and lets go what waits
    pub hands_packet : Did p.lab H q p.a.n (client p.a.c) got → {n : ℕ} → hands.Waits (record { s = s; j = j; n = now H; at = p.r.at; p = fields_in x; is = from_native; nonce = n })
        → message_in (fields_in x) ≡ Some (answer n) → ReadsPayload (value_written None None (fields_in x)) x
        → hands.HandsLate (record { s = s; j = j; n = now H; at = p.r.at; p = fields_in x; is = from_native; nonce = n }) got
        × (q.made ≡ leaves_for_relay p (known (mentions j.entries) (now H) (fields_in x).src).waiting)
        × ((qualification s (with_entry j got)).address ≡ (qualification s j).address)
    hands_packet did {n} waits message payload =
        let g = hands.hands_late_it (record { s = s; j = j; n = now H; at = p.r.at; p = fields_in x; is = from_native; nonce = n }) waits message payload (words p.lab p.a.n H) in (
          g,
          (all_leaves (sends the got did) (releases p.r.at (known (mentions j.entries) (now H) (fields_in x).src).waiting) g.sends
              (all_elsewhere (known (mentions j.entries) (now H) (fields_in x).src).waiting)).made,
          address_stays s j got (ap turn g.fate),
        )

    -- A PACKET OF A NATIVE THAT IS TRUSTED THERE

    pub from_trusted : ReadsPayload (value_written None None (fields_in x)) x → is_bubble (fields_in x) ≡ false → HostStays p H
        → is_trusted_at p.r.at p.of_host ≡ true → IsFromTrusted s j (now H) p.r.at x
    from_trusted payload plain host trusted = record {
      here = from_native.here;
      reads = payload;
      short = little;
      plain = plain;
      no_server = no_server;
      another = from_native.other;
      trusted = ap (is_trusted_at p.r.at) (peer_is host) ∙ trusted;
    }
