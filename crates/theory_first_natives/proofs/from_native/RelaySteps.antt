-- The steps at the relay: what a delivery to it leaves.
use Rattle.theory_first_natives.proofs.Words.{Arrival, At, Delivery, Did, Entry, Ep, Ip6, List, RelaySettings, Some, Strict, [], ap, arrival, at_same_moment, bubble_bytes, bubble_of, bubble_reads_back, bubble_small, each_is_reached, embedded, false, fields_in, has_cone, has_room, is_barred, is_full, is_packet, is_reachable, is_some, is_spent, journal, known, not_full, not_spent, now, refl, relay, relay_in, relay_mentions, relay_settings, relay_six, releases, send, sent, server_ep, server_in, six, true, udp, with_entry, ℕ, ◌∙◌, ◌∷◌, ◌≡◌}
use Rattle.theory_first_natives.proofs.RelayEndpoint as endpoint
use Rattle.theory_first_natives.proofs.from_native.Trio.{IsTrio, is_beside, relay_keeps}
use Rattle.theory_first_natives.proofs.tables.RelayGives as gives
use Rattle.theory_first_natives.proofs.tables.RelayHears as hears
use Rattle.theory_first_natives.proofs.tables.RelayKnows as knows
use Rattle.theory_first_natives.proofs.tables.Makes.{relay_sends}
use Rattle.theory_first_natives.proofs.from_native.TrioStages.{OnSix, RelayKeepsAt, RelayTrustsAt, TrustsClientAt, RelayKeeps, RelayTrusts, TrustsClient}
use Rattle.theory_first_natives.proofs.from_native.TrioAfter.{TrioRecord}

module _ (the : TrioRecord) where
  open the use {p, H, q, r}

  abbrev is : IsTrio p
  is = r.trio

  abbrev s : RelaySettings
  s = relay_settings p.lab.topology p.k p.r

  abbrev own : Ip6
  own = p.a.own

  abbrev j : List Entry
  j = (journal p.k H).entries

  pub reachable : is_reachable Strict own ≡ true
  reachable = endpoint.reachable (is_beside p is)

  -- the entry of a packet for the relay comes to it
  pub comes_by_six : (last : ℕ) (x : List ℕ) → Delivery p.lab H q last → OnSix H last (Some p.k) x
      → Arrival p.lab H q p.k (relay p.r) (six (Some p.k) x)
  comes_by_six last x d at = arrival p.lab H q last d (record {
    number = p.k;
    node = relay p.r;
    item = six (Some p.k) x;
    at = at;
    goes = each_is_reached p.lab H (now H) (six (Some p.k) x) p.k (relay p.r) is.rules is.relay_there refl;
  })

  -- so does a datagram to its endpoint
  pub comes_by_datagram : (last : ℕ) (src : Ep) (x : List ℕ) → Delivery p.lab H q last → At H last src p.r.at x
      → Arrival p.lab H q p.k (relay p.r) (udp src p.r.at x)
  comes_by_datagram last src x d at = arrival p.lab H q last d (record {
    number = p.k;
    node = relay p.r;
    item = udp src p.r.at x;
    at = at;
    goes = each_is_reached p.lab H (now H) (udp src p.r.at x) p.k (relay p.r) is.rules is.relay_there refl;
  })

  -- A PACKET OF THE NATIVE

  -- a packet to the client, at its relay
  pub record ToClient : Type 0 where
    pub x : List ℕ
    pub one : is_packet x ≡ true
    pub to : (fields_in x).dst ≡ own
    pub for_client : gives.IsForClient (record { s = s; j = j; n = now H; x = x; is_one = one })

  -- of which this is read, and whose destination is the client's address
  module _ (to_client : ToClient) where
    open to_client use {x, one, to, for_client}

    abbrev e : Entry
    e = relay_six s j (now H) x

    -- it goes to a client that the relay trusts
    pub goes_at_once : Did p.lab H q p.k (relay p.r) e → is_some (known (relay_mentions j) (now H) own).trusted ≡ true
        → q.made ≡ sent (udp p.r.at (embedded own) x) ∷ []
    goes_at_once did trusted =
        let g = gives.goes_at_once (record { s = s; j = j; n = now H; x = x; is_one = one }) for_client
        (ap (λ (z : Ip6). is_some (known (relay_mentions j) (now H) z).trusted) to ∙ trusted) in
        relay_sends did r.sound (embedded own) x (g.sends ∙ ap (λ (z : Ip6). send (embedded z) x ∷ []) to) g.nothing

    -- and is trusted on
    pub trusts_on : Did p.lab H q p.k (relay p.r) e → TrustsClient p H → TrustsClient p (q ∷ H)
    trusts_on did trusted =
        let g = gives.goes_at_once (record { s = s; j = j; n = now H; x = x; is_one = one }) for_client
        (ap (λ (z : Ip6). is_some (known (relay_mentions j) (now H) z).trusted) to ∙ trusted) in
        at_same_moment (TrustsClientAt p) H q p.k (with_entry (journal p.k H) e) did.moment did.later
        (knows.after_sent (record { e = e; es = j; n = now H; p = own; about = g.about ∙ ap (λ (z : Ip6). Some z) to; moment = g.moment }) g.fate trusted)

    -- the relay did its step with it, doesn't trust the client, and has room for it
    pub record StrangersRoom : Type 0 where
      pub did : Did p.lab H q p.k (relay p.r) e
      pub untrusted : is_some (known (relay_mentions j) (now H) own).trusted ≡ false
      pub room : has_room (relay_mentions j) (now H) own ≡ true

    -- where it doesn't trust the client, and has room for it
    module _ (strange : StrangersRoom) where
      open strange use {did, untrusted, room}

      untrusted_there : is_some (known (relay_mentions j) (now H) (fields_in x).dst).trusted ≡ false
      untrusted_there = ap (λ (z : Ip6). is_some (known (relay_mentions j) (now H) z).trusted) to ∙ untrusted

      room_is : has_room (relay_mentions j) (now H) (fields_in x).dst ≡ true
      room_is = ap (λ (z : Ip6). has_room (relay_mentions j) (now H) z) to ∙ room

      -- it goes to a cone client at once, which the relay trusts then
      pub goes_to_cone : has_cone own ≡ true → (q.made ≡ sent (udp p.r.at (embedded own) x) ∷ []) × TrustsClient p (q ∷ H)
      goes_to_cone cone =
          let g = gives.goes_to_a_cone (record { s = s; j = j; n = now H; x = x; is_one = one }) for_client untrusted_there room_is (ap has_cone to ∙ cone) in (
            relay_sends did r.sound (embedded own) x (g.sends ∙ ap (λ (z : Ip6). send (embedded z) x ∷ []) to) g.nothing,
            at_same_moment (TrustsClientAt p) H q p.k (with_entry (journal p.k H) e) did.moment did.later
                (knows.after_sent_cone (record { e = e; es = j; n = now H; p = own; about = g.about ∙ ap (λ (z : Ip6). Some z) to; moment = g.moment }) g.fate),
          )

      -- for another one it waits, where nothing else does, and a bubble goes to the client's server, unless the relay is barred for it
      pub waits_there : has_cone own ≡ false → is_barred (now H) (known (relay_mentions j) (now H) own) ≡ false
          → (known (relay_mentions j) (now H) own).waiting ≡ [] → x ≡ p.x
          → (q.made ≡ sent (udp p.r.at (server_ep (server_in own)) (bubble_bytes p.r.six own)) ∷ []) × RelayKeeps p (q ∷ H)
      waits_there plain unbarred none same =
          let peer_is = ap (λ (z : Ip6). known (relay_mentions j) (now H) z) to in
          let g = gives.waits_there (record { s = s; j = j; n = now H; x = x; is_one = one }) for_client untrusted_there room_is (ap has_cone to ∙ plain)
          (ap (is_spent (now H)) peer_is ∙ not_spent (now H) (known (relay_mentions j) (now H) own) unbarred)
          (ap is_full peer_is ∙ not_full (known (relay_mentions j) (now H) own) none) (ap (is_barred (now H)) peer_is ∙ unbarred) in
          let t = knows.after_queued (record { e = e; es = j; n = now H; p = own; about = g.about ∙ ap (λ (z : Ip6). Some z) to; moment = g.moment }) g.fate g.packet none in (
            relay_sends did r.sound (server_ep (server_in own)) (bubble_bytes p.r.six own)
                (g.sends ∙ ap (λ (z : Ip6). send (server_ep (server_in z)) (bubble_bytes p.r.six z) ∷ []) to) g.nothing,
            at_same_moment (RelayKeepsAt p) H q p.k (with_entry (journal p.k H) e) did.moment did.later
                (record { listed = t.listed; waiting = t.waiting ∙ ap (λ (y : List ℕ). y ∷ []) same }),
          )

  -- THE CLIENT'S BUBBLE

  -- the bubble of the client, which the relay lists, lets go the packet that waits for it
  pub bubble_frees : Did p.lab H q p.k (relay p.r) (relay_in s j (now H) (embedded own) (bubble_bytes own p.r.six)) → RelayKeeps p H
      → (q.made ≡ sent (udp p.r.at (embedded own) p.x) ∷ []) × RelayTrusts p (q ∷ H)
  bubble_frees did keeps =
      let bubble = bubble_reads_back own p.r.six is.end.address.of.sixteen (relay_keeps p is).six in
      let b : Entry = relay_in s j (now H) (embedded own) (bubble_bytes own p.r.six) in
      let g = hears.lets_go (record { s = s; j = j; n = now H; x = bubble_bytes own p.r.six; p = bubble_of own p.r.six; reads = bubble.payload })
      (bubble_small own p.r.six) is.end.address.of.teredo bubble.bubble keeps.listed in
      let t = knows.after_its_bubble (record { e = b; es = j; n = now H; p = own; about = g.about; moment = g.moment }) g.fate in (
        relay_sends did r.sound (embedded own) p.x (g.sends ∙ ap (releases (embedded own)) keeps.waiting) g.nothing,
        at_same_moment (RelayTrustsAt p) H q p.k (with_entry (journal p.k H) b) did.moment did.later
            (record { listed = t.listed; waiting = t.waiting; trusted = t.trusted }),
      )
