-- The steps of a packet to a native host at the relay, which passes it on, and at the native, which keeps it or answers it.
use Rattle.theory_first_natives.proofs.Words.{Arrival, At, Bool, Delivery, Entry, Ep, Ip6, IsReached, Item, List, Mention, Node, None, Option, Peer, ReachesNative, RelaySettings, Some, [], ap, arrival, arrived, at_same_moment, cond, each_is_reached, embedded, entry_of, false≢true, fields_in, from_six, is_listed, is_some, is_teredo, journal, known, length, list_any, listed_is_known, native, native_in, native_made, no_ep, no_more, no_peer, now, one_more, peer_at, reaches, read_as, refl, relay_in, relay_mentions, relay_settings, releases, route, same_end, same_ip6, same_ip6-self, sent, six, slice_get, subst, suc, sym, to_nobody, to_node, true, udp, unwrap_or, wire, with_entry, ℕ, ◌∙◌, ◌∷◌, ◌≡◌}
use Rattle.theory_first_natives.proofs.from_native.Trio.{Trio, IsTrio}
use Rattle.theory_first_natives.proofs.from_native.TrioStages.{OnSix, TrustsClientAt, TrustsClient, IsOpen, Ground}
use Rattle.theory_first_natives.proofs.from_native.TrioAfter.{payload, no_relay_client, no_native_client, no_native_relay}
use Rattle.theory_first_natives.proofs.from_native.TrioAfter.{next_is, still_open}
use Rattle.theory_first_natives.proofs.from_native.RelaySteps.{comes_by_datagram}
use Rattle.theory_first_natives.proofs.tables.RelayKnows as relay_knows
use Rattle.theory_first_natives.proofs.tables.ToRelay.{RelayIdle}
use Rattle.theory_first_natives.proofs.Served.{is_served}
use Rattle.theory_first_natives.proofs.to_native.ToPasses as passes
use Rattle.theory_first_natives.proofs.to_native.ToPasses.{one_passes}
use Rattle.theory_first_natives.proofs.to_native.ToStages.{EnquiryRecord, in_trio, BelievesAt, Believes, comes}
use Rattle.theory_first_natives.proofs.to_native.ToStages.{ToNext, goes_on, is_kept, is_answered_by}
use Rattle.theory_first_natives.proofs.to_native.ToSteps.{stays, ground_stays, asked_of}
use Rattle.theory_first_natives.proofs.to_native.ToAnswer.{answer_goes}

-- whom the relay trusts it lists
trusted_is_listed : (ms : List Mention) (n : ℕ) (p : Ip6) → is_some (known ms n p).trusted ≡ true → is_listed p n ms ≡ true
trusted_is_listed ms n p trusted = sym (listed_is_known ms n p) ∙ by (peer_at ms n p) trusted where
  by : (o : Option Peer) → is_some (unwrap_or o no_peer).trusted ≡ true → is_some o ≡ true
  by None e = absurd (false≢true e)
  by (Some k) e = refl

module _ (the : EnquiryRecord) where
  open the use {p, asked, H, q, r}

  abbrev t : Trio
  t = p.trio

  abbrev is : IsTrio t
  is = r.trio

  abbrev own : Ip6
  own = t.a.own

  abbrev y : List ℕ
  y = p.packet

  abbrev relay_is : RelaySettings
  relay_is = relay_settings t.lab.topology t.k t.r

  abbrev relay_did : List Entry
  relay_did = (journal t.k H).entries

  -- at the relay
  pub packet_at_relay : {last : ℕ} → Delivery t.lab H q last → length (wire H) ≡ suc last → At H last (embedded own) t.r.at y → TrustsClient t H
      → RelayIdle t H → Believes p H → IsOpen t H → ToNext p H q last 2
  packet_at_relay {last} d long at trusts idle believes way =
      let src = asked.packet.source in
      let came = comes_by_datagram (in_trio the) last (embedded own) y d at in
      let reads = payload (in_trio the) last (udp (embedded own) t.r.at y) at (fields_in y) (read_as y asked.packet.packet) in
      let e : Entry = relay_in relay_is relay_did (now H) (embedded own) y in
      let g = subst (λ (z : Ep). passes.Passes relay_is relay_did (now H) y (fields_in y) reads (relay_in relay_is relay_did (now H) z y)) (ap embedded src)
      (passes.passes_it_on relay_is relay_did (now H) y (fields_in y) reads (record {
        short = asked.small;
        teredo = ap is_teredo src ∙ is.end.address.of.teredo;
        no_bubble = asked.packet.no_bubble;
        listed = ap (λ (z : Ip6). is_listed z (now H) (relay_mentions relay_did)) src
            ∙ trusted_is_listed (relay_mentions relay_did) (now H) own trusts;
        served = ap (λ (z : Ip6). list_any (same_ip6 z) relay_is.served) asked.packet.destination
            ∙ ap (λ (k : ℕ). list_any (same_ip6 t.h.six) (relay_settings t.lab.topology k t.r).served) (sym is.through)
            ∙ is_served t.lab.topology t.m t.h is.native_there;
      })) in
      let made = one_passes H came.did (embedded own) y
      (g.sends ∙ ap (λ (z : Ip6). releases (embedded z) (known (relay_mentions relay_did) (now H) z).waiting) src ∙ ap (releases (embedded own)) idle)
      g.six (g.came ∙ ap (λ (z : Ip6). arrived (embedded z) y) src) in
      let more = one_more H q last (six None y) long made in
      let client = no_relay_client (in_trio the) in
      let then = relay_knows.after_its_packet (record {
        e = e;
        es = relay_did;
        n = now H;
        p = own;
        about = g.about ∙ ap (λ (z : Ip6). Some z) src;
        moment = g.moment;
      }) g.fate in
      goes_on 0 (ground_stays the t.k came.did.node client came.calm came.did.moment) more.longer
      (comes more.at
      (at_same_moment (TrustsClientAt t) H q t.k (with_entry (journal t.k H) e) came.did.moment came.did.later then)
      (stays the (BelievesAt p) t.k t.a.n came.did.node client came.did.moment believes)
      (still_open (in_trio the) (next_is (in_trio the) came.calm came.did.moment) way))

  -- at the native
  module _ (last : ℕ) (at : OnSix H last None y) where
    leads : route t.lab H (now H) (six None y) ≡ reaches t.m (native t.h)
    leads = each_is_reached t.lab H (now H) (six None y) t.m (native t.h) is.rules is.native_there (record {
      packet = asked.packet.packet;
      destination = ap (λ (z : Ip6). same_ip6 z t.h.six) asked.packet.destination ∙ same_ip6-self t.h.six;
    })

    same_item : (z : Item) → slice_get (wire H) last ≡ Some z → z ≡ six None y
    same_item z e = ap (λ (o : Option Item). unwrap_or o z) (sym e ∙ at)

    of_reached : IsReached t.lab H q t.m (native t.h) (six None y) → ReachesNative t.m y q
    of_reached reached = record {
      brings = record {
        node = reached.act.node;
        entry = entry_of t.lab H q.moment t.m no_ep (from_six y) (native t.h);
        did = reached.act.entry;
        packet = refl;
      };
      fate = reached.act.fate;
    }

    brought : Delivery t.lab H q last → ReachesNative t.m y q
    brought (to_node i a z e reached) =
        let here : IsReached t.lab H q i a (six None y) = subst (IsReached t.lab H q i a) (same_item z e) reached in
        let end = same_end (route t.lab H (now H) (six None y)) i t.m a (native t.h) here.leads leads in
        of_reached (subst (λ (b : Node). IsReached t.lab H q t.m b (six None y)) end.1
        (subst (λ (k : ℕ). IsReached t.lab H q k a (six None y)) end.0 here))
    brought (to_nobody z e miss) = absurd (miss.nobody t.m (native t.h) (ap (route t.lab H (now H)) (same_item z e) ∙ leads))

    pub packet_at_native : Delivery t.lab H q last → length (wire H) ≡ suc last → TrustsClient t H → Believes p H → IsOpen t H
        → ToNext p H q last 1
    packet_at_native d long trusts believes way = by (native_in y).packet refl where
      came : Arrival t.lab H q t.m (native t.h) (six None y)
      came = arrival t.lab H q last d (record { number = t.m; node = native t.h; item = six None y; at = at; goes = leads })

      ground : Ground t (q ∷ H)
      ground = ground_stays the t.m came.did.node (no_native_client (in_trio the)) came.calm came.did.moment

      -- what it answers goes to its relay
      made : (x : List ℕ) → (native_in y).packet ≡ Some x → q.made ≡ sent (six (Some t.k) x) ∷ []
      made x same =
          let goes = answer_goes own t.h.six y x (asked_of the) same in
          came.did.made ∙ ap (native_made t.h) same
          ∙ ap (λ (b : Bool). sent (six (cond b (Some t.h.relay) None) x) ∷ []) (ap is_teredo goes.destination ∙ is.end.address.of.teredo)
          ∙ ap (λ (k : ℕ). sent (six (Some k) x) ∷ []) is.through

      by : (o : Option (List ℕ)) → (native_in y).packet ≡ o → ToNext p H q last 1
      by None none = is_kept ground (brought d) none
          (ap (λ (xs : List Item). length xs) (no_more H q (came.did.made ∙ ap (native_made t.h) none)) ∙ long)
      by (Some x) same =
          let more = one_more H q last (six (Some t.k) x) long (made x same) in
          is_answered_by ground (brought d) x same more.longer more.at
          (stays the (TrustsClientAt t) t.m t.k came.did.node (no_native_relay (in_trio the)) came.did.moment trusts)
          (stays the (BelievesAt p) t.m t.a.n came.did.node (no_native_client (in_trio the)) came.did.moment believes)
          (still_open (in_trio the) (next_is (in_trio the) came.calm came.did.moment) way)
