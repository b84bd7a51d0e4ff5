-- A packet from a client to a native host comes: from where its schedule begins to its end.
use Rattle.theory_first_natives.proofs.Words.{AreFresh, AreOpen, Bool, ComesWithin, Did, Entry, Fate, Full, GetsToNative, Grown, HOST_HOP, Ip6, IsCalmNext, Item, Journal, List, MayAskClient, NextToNativeArrivesAlong, OfEachSchedule, Settings, Some, [], address_stays, ap, arith, asked_along, asks_at, at_same_moment, bearing_of, client, client_out, cond, earlier, embedded, enters_by_its_way, false, false≢true, has_cone, is_answered, is_barred, is_changed, journal, known_by, last_there, length, message_packet, most_deliveries, must_ask, nats_of, nonce_from, not, now, one_longer, one_open, other_way, packet_bytes, refl, same_ip6, setup, slice_get, sound_first, subst, sym, true, trusts_client, turn, udp, wire, with_entry, words, ℕ, ◌&&◌, ◌++◌, ◌+◌, ◌∙◌, ◌∷◌, ◌≡◌, ◌≤◌}
use Rattle.theory_first_natives.proofs.Apart.{sixes_apart}
use Rattle.theory_first_natives.proofs.tables.NativeReads.{answer}
use Rattle.theory_first_natives.proofs.from_native.Trio.{Trio}
use Rattle.theory_first_natives.proofs.from_native.TrioStages.{test_of, RelayAsksAt, TrustsClientAt, RelayHasRoomAt, IsOpen, to_trusted, to_cone}
use Rattle.theory_first_natives.proofs.tables.ToRelay.{RelayIdleAt, RelayIdle}
use Rattle.theory_first_natives.proofs.from_native.TrioAfter.{TrioRecord, IsRecord, still_open, ground_on, same_after}
use Rattle.theory_first_natives.proofs.tables.OthersKnown.{others_known, others_room}
use Rattle.theory_first_natives.proofs.to_native.ToGiven as given_to
use Rattle.theory_first_natives.proofs.to_native.ToKnows as knows
use Rattle.theory_first_natives.proofs.to_native.ToStages.{Enquiry, WaitsAt, MayListAt, Onward, asks_first, at_once, all_steps, asks, answer_steps}
use Rattle.theory_first_natives.proofs.to_native.ToBoards.{Board, under_way, boards, few_in_all, enough, arrives, answered}
use Rattle.theory_first_natives.proofs.to_native.ToHandedIn as first
use Rattle.theory_first_natives.proofs.to_native.ToHandedIn.{IsToStart}

module _ (p : Enquiry) (H : List Full) (r : Full) (start : IsToStart p H r) where
  abbrev t : Trio
  t = p.trio

  abbrev own : Ip6
  own = t.a.own

  abbrev y : List ℕ
  y = p.packet

  abbrev s : Settings
  s = setup t.lab t.a

  abbrev j : Journal
  j = journal t.a.n H

  abbrev e : Entry
  e = client_out s j (now H) y (words t.lab t.a.n H)

  did : Did t.lab H r t.a.n (client t.a.c) e
  did = first.did p H r start

  asked : given_to.AsksFirst s j (now H) y (words t.lab t.a.n H) (first.for_tested p H r start) e
  asked = first.asked p H r start

  is_record : IsRecord t H r
  is_record = first.is_record p H r start

  abbrev latest : TrioRecord
  latest = record { p = t; H = H; q = r; r = is_record }

  calm_next : IsCalmNext t.lab H r
  calm_next = first.calm_next p H r start

  relay_stays : journal t.k (r ∷ H) ≡ journal t.k H
  relay_stays = first.relay_stays p H r start

  -- WHAT THE CLIENT KNOWS THEN

  about : e.peer ≡ Some t.h.six
  about = asked.about ∙ ap (λ (z : Ip6). Some z) start.next.handed.packet.destination

  waits : WaitsAt p (with_entry j e) (now H)
  waits =
      let k = knows.after_asking (record { e = e; es = j.entries; n = now H; p = t.h.six; about = about; moment = asked.moment }) asked.fate asked.packet
      (asked.drew ∙ ap (λ (n : ℕ). Some n) (sym start.nonce)) start.next.nodes.nothing_waits in
      record { listed = k.listed; waiting = k.waiting; tested = k.tested; stale = k.fresh ∙ start.next.nodes.stale }

  -- of the relay as much as before
  may_list : MayAskClient H t.a.n t.k own t.h.six t.r.six → MayListAt p (with_entry j e) (now H)
  may_list may =
      let keeps : is_changed e.step.fate ≡ false = ap is_changed asked.fate in
      let touches : (bearing_of e.step.fate e).touches ≡ true = ap (λ (f : Fate). (bearing_of f e).touches) asked.fate in
      let apart : same_ip6 t.h.six t.r.six ≡ false =
      other_way t.r.six t.h.six (sixes_apart t.lab.topology start.rules t.k t.m t.r t.h start.next.nodes.relay start.next.nodes.host) in
      record {
        unbarred = ap (is_barred (now H)) (others_known e j.entries (now H) about keeps touches t.r.six apart)
            ∙ may.client_unbarred;
        room = others_room e j.entries (now H) about keeps touches t.r.six apart may.room
            (λ relay host. may.room_for_both host relay);
      }

  -- WHAT THE RELAY WILL DO

  relay_at_moment : (P : Journal → ℕ → Type 0) → P (journal t.k H) (now H) → P (journal t.k (r ∷ H)) (now (r ∷ H))
  relay_at_moment P holds = at_same_moment P H r t.k (journal t.k H) did.moment relay_stays holds

  -- what it sends is let in where it trusts the client
  opened : trusts_client H t.k own ≡ true → IsOpen t (r ∷ H)
  opened trusts = still_open latest calm_next
      (asked_along t.lab H start.grown.1 t.r.at (nats_of t.lab t.a.c) t.a.c.inside (embedded own)
      (enters_by_its_way t.lab H (now H) t.r.at (embedded own) t.a.c start.chained (start.next.nodes.let_in trusts)))

  idle : RelayIdle t (r ∷ H)
  idle = relay_at_moment (RelayIdleAt t) start.next.nodes.relay_idle

  -- where it must ask
  module _ (plain : has_cone own ≡ false) (untrusted : trusts_client H t.k own ≡ false) where
    may : MayAskClient H t.a.n t.k own t.h.six t.r.six
    may = start.next.nodes.may_ask (ap (λ (b : Bool). not b && not (has_cone own)) untrusted ∙ ap not plain)

    will_ask : Onward p (r ∷ H) true
    will_ask = asks_first plain
        (relay_at_moment (RelayAsksAt t) (record {
          untrusted = untrusted;
          room = start.next.nodes.client_room;
          unbarred = may.relay_unbarred;
          nothing_waits = may.nothing_waits;
        }))
        (at_same_moment (MayListAt p) H r t.a.n (with_entry j e) did.moment did.later (may_list may))

  onward : Onward p (r ∷ H) p.asks
  onward = subst (Onward p (r ∷ H)) start.asks (by (trusts_client H t.k own) (has_cone own) refl refl) where
    by : (b c : Bool) → trusts_client H t.k own ≡ b → has_cone own ≡ c → Onward p (r ∷ H) (not b && not c)
    by true c trusts cone = at_once (to_trusted (relay_at_moment (TrustsClientAt t) trusts) (opened trusts)) idle
    by false true untrusted cone =
        at_once (to_cone cone (relay_at_moment (RelayHasRoomAt t) (record { untrusted = untrusted; room = start.next.nodes.client_room }))) idle
    by false false untrusted plain = will_ask plain untrusted

  -- THE SCHEDULE

  board : Board p H r []
  board = under_way (record {
    last = length (wire H);
    left = all_steps p.asks;
    ground = ground_on latest calm_next
        (same_after latest e did.later (address_stays s j e (ap turn asked.fate)));
    long = ap (λ (xs : List Item). length (wire H ++ xs)) (first.items p H r start)
        ∙ one_longer (wire H) (udp (embedded own) (asks_at t.lab t.a.c) (test_of t p.nonce));
    are = subst (λ (f : ℕ). AreOpen f (length (wire H)) false true []) (sym (first.number p H r start)) (one_open (length (wire H)));
    stage = asks
        (ap (λ (xs : List Item). slice_get (wire H ++ xs) (length (wire H))) (first.items p H r start)
        ∙ last_there (wire H) (udp (embedded own) (asks_at t.lab t.a.c) (test_of t p.nonce)))
        (at_same_moment (WaitsAt p) H r t.a.n (with_entry j e) did.moment did.later waits)
        onward;
    more = omega arith;
    sum = omega arith;
  })

  steps_are : (b : Bool) → all_steps b ≡ most_deliveries b
  steps_are true = refl
  steps_are false = refl

  -- the whole schedule
  pub carried : (later : List Full) → Grown t.lab (later ++ r ∷ H) → AreFresh r later → GetsToNative H r t.a.n t.m y later (most_deliveries p.asks)
  carried later g fresh =
      let last : Board p H r later = boards p H r (first.is_enquiry p H r start) later g fresh board in
      let steps : all_steps p.asks ≡ most_deliveries p.asks = steps_are p.asks in
      let most : length later ≤ most_deliveries p.asks + answer_steps p =
      subst (λ (n : ℕ). length later ≤ n + answer_steps p) steps (few_in_all p H r later last) in
      record {
        few = λ no. plain (is_answered y) no most;
        few_with_answer = two_more (is_answered y) most;
        enough = λ many. subst (λ (n : ℕ). ComesWithin n t.m y later) steps (enough p H r later last (subst (λ (n : ℕ). n ≤ length later) (sym steps) many));
        arrives = λ complete. subst (λ (n : ℕ). ComesWithin n t.m y later) steps (arrives p H r later last complete);
        answered = answered p H r later last;
      } where
        plain : (b : Bool) → b ≡ false → length later ≤ most_deliveries p.asks + cond b 2 0 → length later ≤ most_deliveries p.asks
        plain false e h = omega (arith, h)
        plain true e h = absurd (false≢true (sym e))

        two_more : (b : Bool) → length later ≤ most_deliveries p.asks + cond b 2 0 → length later ≤ most_deliveries p.asks + 2
        two_more false h = omega (arith, h)
        two_more true h = h

-- each packet to a native host that may come comes
pub each_next : OfEachSchedule NextToNativeArrivesAlong
each_next lab H q later rules chained g n m k a h relay own x next fresh =
    let nonce : ℕ = nonce_from (words lab n H) in
    let p : Enquiry = record {
      trio = record {
        lab = lab;
        a = record { n = n; c = a; own = own };
        m = m;
        k = k;
        h = h;
        r = relay;
        of_host = known_by H n h.six;
        x = packet_bytes (message_packet HOST_HOP h.six own (answer nonce));
      };
      nonce = nonce;
      packet = x;
      asks = must_ask H k own;
    } in
    carried p H q (record {
      rules = rules;
      chained = chained;
      grown = earlier lab later (q ∷ H) g;
      next = next;
      sound = sound_first q later fresh;
      nonce = refl;
      reply = refl;
      asks = refl;
    }) later g fresh
