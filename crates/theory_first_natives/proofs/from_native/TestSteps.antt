-- The steps of the test of a native host, and of its reply: what each delivery leaves.
use Rattle.theory_first_natives.proofs.Words.{Arrival, At, Bool, Contains, Contains-push, Delivery, Entry, Ep, Fate, Full, GoesBetween, HELD_MAX, Held, Ip6, Item, Journal, List, None, Option, Peer, ReadsPayload, Some, Span, Touches, [], and_parts, ap, asks_at, at_same_moment, bearing_of, client, cond, embedded, false, false≢true, fields_in, held_from, holds_most, inl, inr, is_big, is_changed, is_ep, is_fresh, is_listed, is_none, is_some, is_trusted_at, journal, known, length, mentions, nat_le, no_more, not, now, one_more, option_and_then, option_or, other_journal, part_of, qualification, read_as, refl, same_ep-self, setup, six, source_of, subst, suc, sym, true, trusted_after, udp, value_written, wire, with_entry, ℕ, ◌&&◌, ◌++◌, ◌∙◌, ◌∷◌, ◌≡◌}
use Rattle.theory_first_packets.proofs.tables.Known.{waits_after}
use Rattle.teredo_node.specs.declared.fate.Fate.TheVariants as fate
use Rattle.theory_first_natives.proofs.tables.NativeReads.{reply_message}
use Rattle.theory_first_natives.proofs.from_native.ClientSteps as steps
use Rattle.theory_first_natives.proofs.tables.ClientHands as hands
use Rattle.theory_first_natives.proofs.from_native.RelaySteps.{comes_by_six, goes_at_once, trusts_on}
use Rattle.theory_first_natives.proofs.from_native.OnItsWay as on_its_way
use Rattle.theory_first_natives.proofs.from_native.OnItsWay.{six_of_own, six_of_host, reply_goes, reply_small, test_at_native}
use Rattle.theory_first_natives.proofs.from_native.TrioStages.{OnSix, test_of, reply_of, is_strange, held_then, HoldsAt, HoldsIt, leaves_for_relay}
use Rattle.theory_first_natives.proofs.from_native.TrioStages.{TrustsClientAt, TrustsClient, TrustsHostAt, IsOpen, asks, echoes, replies, has_come, Next}
use Rattle.theory_first_natives.proofs.from_native.TrioStages.{goes_on, ends, brings, parts}
use Rattle.theory_first_natives.proofs.from_native.TrioAfter.{TrioRecord, payload, no_relay_client, no_native_client, no_native_relay, no_server_client, no_server_relay, next_is, of_another}
use Rattle.theory_first_natives.proofs.from_native.TrioAfter.{still_open, ground_on, same_address, same_after}
use Rattle.theory_first_natives.proofs.from_native.TrioSteps.{for_client, client_stays}

-- nothing waits for a stranger, and nothing of it is held
pub nothing_kept : (k : Peer) → is_strange k ≡ true → (k.waiting ≡ []) × (k.held ≡ [])
nothing_kept k e =
    let all = and_parts (not (is_some k.trusted)) (is_none k.waiting && is_none k.held) e in
    let both = and_parts (is_none k.waiting) (is_none k.held) all.1 in
    (none k.waiting both.0, none k.held both.1) where
      none : {A : Type 0} → (xs : List A) → is_none xs ≡ true → xs ≡ []
      none [] e = refl
      none (x ∷ xs) e = absurd (false≢true e)

-- who holds nothing doesn't hold as many as it may
pub holds_few : (k : Peer) → k.held ≡ [] → holds_most k ≡ false
unfolding holds_most
holds_few k none = ap (λ (hs : List Held). nat_le HELD_MAX (length hs)) none

-- one that is believed by rule 2 is trusted where the reply came from, and nothing waits for it then
after_rule_two : (e : Entry) (es : List Entry) {n : ℕ} {p : Ip6} → e.peer ≡ Some p → e.moment ≡ n → e.step.fate ≡ fate.Rule2
    → {at : Ep} → source_of e.input ≡ Some at
    → (is_trusted_at at (known (mentions (e ∷ es)) n p) ≡ true) × ((known (mentions (e ∷ es)) n p).waiting ≡ [])
after_rule_two e es {n} {p} about moment rule {at} came =
    let touched : Touches e n p = record {
      peer = about;
      moment = moment;
      keeps = ap is_changed rule;
      touches = ap (λ (f : Fate). (bearing_of f e).touches) rule;
    } in (
      trusted_after e es n p touched at fate.Rule2 rule
          ∙ ap (λ (o : Option Ep). is_ep at (option_or o (known (mentions es) n p).trusted)) came
          ∙ same_ep-self at,
      waits_after e es n p touched fate.Rule2 rule,
    )

module _ (the : TrioRecord) (nonce : ℕ) where
  open the use {p, H, q, r}

  abbrev own : Ip6
  own = p.a.own

  abbrev j : Journal
  j = journal p.a.n H

  goes : GoesBetween p.h.six own (reply_of p nonce)
  goes = reply_goes the nonce

  src : (fields_in (reply_of p nonce)).src ≡ p.h.six
  src = goes.source

  dst : (fields_in (reply_of p nonce)).dst ≡ own
  dst = goes.destination

  held_also : holds_most p.of_host ≡ false → held_then p ≡ held_from p.r.at p.of_host.held ++ p.x ∷ []
  held_also few = ap (λ (b : Bool). cond b (held_from p.r.at p.of_host.held) (held_from p.r.at p.of_host.held ++ p.x ∷ [])) few

  small : is_big (fields_in (reply_of p nonce)) ≡ false
  small = reply_small the nonce

  -- the test, at the server
  pub test_at_server : {last : ℕ} (later : List Full) → Delivery p.lab H q last → length (wire H) ≡ suc last
      → At H last (embedded own) (asks_at p.lab p.a.c) (test_of p nonce) → HoldsIt p H nonce → TrustsClient p H → IsOpen p H → Next p H q last later 4
  test_at_server {last} later d long at holds trusts way =
      let came = on_its_way.test_at_server the nonce last d at in
      let more = one_more H q last (six None (test_of p nonce)) long came.made in
      let next = next_is the came.calm came.moment in
      let same = client_stays the p.a.c.server came.node (no_server_client the) in
      let relays = other_journal p.lab H q p.a.c.server p.k came.node (no_server_relay the) in
      goes_on 2 (ground_on the next (same_address the same)) more.longer
      (asks nonce more.at (at_same_moment (HoldsAt p nonce) H q p.a.n j came.moment same holds)
      (at_same_moment (TrustsClientAt p) H q p.k (journal p.k H) came.moment relays trusts) (still_open the next way))
      (of_another the p.a.c.server came.node (no_server_client the))

  -- at the native
  pub at_native : {last : ℕ} (later : List Full) → Delivery p.lab H q last → length (wire H) ≡ suc last → OnSix H last None (test_of p nonce)
      → HoldsIt p H nonce → TrustsClient p H → IsOpen p H → Next p H q last later 3
  at_native {last} later d long at holds trusts way =
      let came = test_at_native the nonce last d at in
      let more = one_more H q last (six (Some p.k) (reply_of p nonce)) long came.made in
      let next = next_is the came.calm came.moment in
      let same = client_stays the p.m came.node (no_native_client the) in
      let relays = other_journal p.lab H q p.m p.k came.node (no_native_relay the) in
      goes_on 1 (ground_on the next (same_address the same)) more.longer
      (echoes nonce more.at (at_same_moment (HoldsAt p nonce) H q p.a.n j came.moment same holds)
      (at_same_moment (TrustsClientAt p) H q p.k (journal p.k H) came.moment relays trusts) (still_open the next way))
      (of_another the p.m came.node (no_native_client the))

  -- the reply, at the relay
  pub reply_at_relay : {last : ℕ} (later : List Full) → Delivery p.lab H q last → length (wire H) ≡ suc last → OnSix H last (Some p.k) (reply_of p nonce)
      → HoldsIt p H nonce → TrustsClient p H → IsOpen p H → Next p H q last later 2
  reply_at_relay {last} later d long at holds trusts way =
      let came = comes_by_six the last (reply_of p nonce) d at in
      let may = for_client the (reply_of p nonce) goes.packet src dst small in
      let more = one_more H q last (udp p.r.at (embedded own) (reply_of p nonce)) long
      (goes_at_once the (record { x = reply_of p nonce; one = goes.packet; to = dst; for_client = may }) came.did trusts) in
      let next = next_is the came.calm came.did.moment in
      let same = client_stays the p.k came.did.node (no_relay_client the) in
      goes_on 0 (ground_on the next (same_address the same)) more.longer
      (replies nonce more.at (at_same_moment (HoldsAt p nonce) H q p.a.n j came.did.moment same holds)
      (trusts_on the (record { x = reply_of p nonce; one = goes.packet; to = dst; for_client = may }) came.did trusts) (still_open the next way))
      (of_another the p.k came.did.node (no_relay_client the))

  -- the reply to the test is delivered, the latest entry, and the packet is held for it
  pub record ReplyComes : Type 0 where
    pub last : ℕ
    pub later : List Full
    pub d : Delivery p.lab H q last
    pub long : length (wire H) ≡ suc last
    pub at : At H last p.r.at (embedded own) (reply_of p nonce)
    pub holds : HoldsIt p H nonce
    pub trusts : TrustsClient p H
    pub way : IsOpen p H

  -- at the client, whose host is handed the packet
  module _ (reply_comes : ReplyComes) where
    open reply_comes use {last, later, d, long, at, holds, trusts, way}

    came : Arrival p.lab H q p.a.n (client p.a.c) (udp p.r.at (embedded own) (reply_of p nonce))
    came = steps.comes_to_client the last p.r.at (reply_of p nonce) d at way

    reads : ReadsPayload (value_written None None (fields_in (reply_of p nonce))) (reply_of p nonce)
    reads = payload the last (udp p.r.at (embedded own) (reply_of p nonce)) at (fields_in (reply_of p nonce))
        (read_as (reply_of p nonce) goes.packet)

    abbrev got : Entry
    got = steps.got the (record { x = reply_of p nonce; src = src; dst = dst; little = small })

    abbrev host : Ip6 → Peer
    host z = known (mentions j.entries) (now H) z

    g : hands.HandsLate (record {
      s = setup p.lab p.a;
      j = j;
      n = now H;
      at = p.r.at;
      p = fields_in (reply_of p nonce);
      is = steps.from_native the (record { x = reply_of p nonce; src = src; dst = dst; little = small });
      nonce = nonce;
    }) got
        × (q.made ≡ leaves_for_relay p (host (fields_in (reply_of p nonce)).src).waiting)
        × ((qualification (setup p.lab p.a) (with_entry j got)).address ≡ (qualification (setup p.lab p.a) j).address)
    g = steps.hands_packet the (record { x = reply_of p nonce; src = src; dst = dst; little = small }) came.did {n = nonce} (record {
      listed = ap (λ (z : Ip6). is_listed z (now H) (mentions j.entries)) src ∙ holds.listed;
      tested = ap (λ (z : Ip6). (host z).nonce) src ∙ holds.tested;
      untrusted = ap (λ (z : Ip6). is_trusted_at p.r.at (host z)) src ∙ holds.untrusted;
      stale = ap (λ (z : Ip6). is_fresh (now H) (host z)) src ∙ holds.stale;
    }) (reply_message own p.h.six (six_of_own the) (six_of_host the) nonce) reads

    late : q.late ≡ held_then p
    late = came.did.late ∙ g.0.late ∙ ap (λ (z : Ip6). held_from p.r.at (host z).held) src ∙ holds.held

    -- from a stranger nothing else comes, and nothing goes to it
    module _ (e : is_strange p.of_host ≡ true) where
      kept : (p.of_host.waiting ≡ []) × (p.of_host.held ≡ [])
      kept = nothing_kept p.of_host e

      few : holds_most p.of_host ≡ false
      few = holds_few p.of_host kept.1

      made : q.made ≡ []
      made = g.1 ∙ ap (leaves_for_relay p) (ap (λ (z : Ip6). (host z).waiting) src ∙ holds.waiting ∙ kept.0)

      from_stranger : Next p H q last later 1
      from_stranger =
          let next = next_is the came.calm came.did.moment in
          ends (ground_on the next (same_after the got came.did.later g.2))
          (ap (λ (xs : List Item). length xs) (no_more H q made) ∙ long)
          (has_come (inl (record {
            node = came.did.node;
            packet = late ∙ held_also few ∙ ap (λ (hs : List Held). held_from p.r.at hs ++ p.x ∷ []) kept.1;
            rule = came.did.fate ∙ g.0.fate;
          }))) few

    -- the packet is the last of what was held
    with_packet : is_strange p.of_host ≡ false → holds_most p.of_host ≡ false → Next p H q last later 1
    with_packet known few = brings 0 (record {
      node = came.did.node;
      packet = inr (subst (λ (ys : List (List ℕ)). Contains ys p.x) (sym (late ∙ held_also few)) (Contains-push (held_from p.r.at p.of_host.held) p.x));
    }) known (inr few)

    -- or it isn't among it, but for its bytes
    only_held : holds_most p.of_host ≡ true → Next p H q last later 1
    only_held full =
        let next = next_is the came.calm came.did.moment in
        let relays = other_journal p.lab H q p.a.n p.k came.did.node (λ same. no_relay_client the (sym same)) in
        let believed = after_rule_two got j.entries (g.0.about ∙ ap (λ (z : Ip6). Some z) src) g.0.moment g.0.fate g.0.came in
        parts 0 full holds.before (record {
          node = came.did.node;
          handed = came.did.handed ∙ ap (λ (o : Option Span). option_and_then (part_of got.input) o) g.0.handed;
          late = late;
          before = r.ground;
          ground = ground_on the next (same_after the got came.did.later g.2);
          client_trusts = at_same_moment (TrustsHostAt p) H q p.a.n (with_entry j got) came.did.moment came.did.later
              (record { trusted = believed.0; nothing_waits = believed.1 });
          relay_trusts = at_same_moment (TrustsClientAt p) H q p.k (journal p.k H) came.did.moment relays trusts;
          opened = still_open the next way;
          made = g.1 ∙ ap (λ (z : Ip6). leaves_for_relay p (host z).waiting) src;
        })

    pub at_end : Next p H q last later 1
    at_end = by (is_strange p.of_host) (holds_most p.of_host) refl refl where
      by : (b c : Bool) → is_strange p.of_host ≡ b → holds_most p.of_host ≡ c → Next p H q last later 1
      by true c e f = from_stranger e
      by false true e f = only_held f
      by false false e f = with_packet e f
