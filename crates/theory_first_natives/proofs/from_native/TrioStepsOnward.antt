-- The steps of a packet from a native host at the client, from where this hears of the relay until it tests the host.
use Rattle.theory_first_natives.proofs.Words.{Arrival, At, Bool, Delivery, Entry, Ep, Full, Ip6, Journal, List, None, Option, Peer, ReadsPayload, Some, Span, ap, asks_at, at_same_moment, bubble_bytes, client, embedded, false, false≢true, fields_in, holds_most, inl, is_echo_reply, is_ep, is_none, is_some, is_trusted_at, journal, length, message_in, not, now, one_more, option_and_then, other_journal, part_of, read_as, refl, setup, suc, sym, true, udp, value_written, wire, with_entry, words, ℕ, ◌&&◌, ◌∙◌, ◌≡◌}
use Rattle.teredo_node.specs.declared.fate.Fate.TheVariants as fate
use Rattle.theory_first_natives.proofs.from_native.Trio.{IsTrio}
use Rattle.theory_first_natives.proofs.Apart.{sixes_apart}
use Rattle.theory_first_natives.proofs.tables.ClientKnows as knows
use Rattle.theory_first_natives.proofs.from_native.ClientSteps as steps
use Rattle.theory_first_natives.proofs.from_native.BubbleSteps as bubble_steps
use Rattle.theory_first_natives.proofs.tables.ServerTells.{told}
use Rattle.theory_first_natives.proofs.tables.FromTrusted.{handed_at_once}
use Rattle.theory_first_natives.proofs.tables.HandsNothing.{hands_nothing}
use Rattle.theory_first_natives.proofs.from_native.TrioStages.{test_of, is_strange, HostStaysAt, HostStays, MayHear, HoldsAt, RelayKeepsAt, RelayKeeps}
use Rattle.theory_first_natives.proofs.from_native.TrioStages.{TrustsClientAt, TrustsClient, IsOpen, answers, tests, Next, goes_on, brings}
use Rattle.theory_first_natives.proofs.from_native.TrioAfter.{TrioRecord, payload, no_relay_client, next_is, of_none}
use Rattle.theory_first_natives.proofs.from_native.TrioAfter.{still_open, ground_on, same_after}

-- who is trusted anywhere is no stranger
no_stranger : (at : Ep) (k : Peer) → is_trusted_at at k ≡ true → is_strange k ≡ false
unfolding is_trusted_at
no_stranger at k e = by k.trusted e where
  by : (o : Option Ep) → is_ep at o ≡ true → (not (is_some o) && (is_none k.waiting && is_none k.held)) ≡ false
  by None e = absurd (false≢true e)
  by (Some to) e = refl

module _ (the : TrioRecord) where
  open the use {p, H, q, r}

  abbrev is : IsTrio p
  is = r.trio

  abbrev own : Ip6
  own = p.a.own

  abbrev j : Journal
  j = journal p.a.n H

  -- the relay's bubble, from the server
  pub at_client : (last : ℕ) (later : List Full) → Delivery p.lab H q last → length (wire H) ≡ suc last
      → At H last (asks_at p.lab p.a.c) (embedded own) (told p is) → RelayKeeps p H → MayHear p H → Next p H q last later 7
  at_client last later d long at keeps may =
      let came = steps.comes_to_client the last (asks_at p.lab p.a.c) (told p is) d at r.ground.way in
      let g = bubble_steps.answers_bubble the may.room may.unbarred came.did in
      let none = hands_nothing (setup p.lab p.a) j (now H) (asks_at p.lab p.a.c) (told p is) (words p.lab p.a.n H) g.2 refl in
      let more = one_more H q last (udp (embedded own) p.r.at (bubble_bytes own p.r.six)) long g.0 in
      let next = next_is the came.calm came.did.moment in
      let relays = other_journal p.lab H q p.a.n p.k came.did.node (λ same. no_relay_client the (sym same)) in
      let apart = sixes_apart p.lab.topology is.rules p.k p.m p.r p.h is.relay_there is.native_there in
      goes_on 5 (ground_on the next (same_after the (bubble_steps.heard the) came.did.later g.4)) more.longer
      (answers more.at (at_same_moment (RelayKeepsAt p) H q p.k (journal p.k H) came.did.moment relays keeps)
      (at_same_moment (HostStaysAt p) H q p.a.n (with_entry j (bubble_steps.heard the)) came.did.moment came.did.later (record {
        same = knows.others_stay_known (bubble_steps.heard the) j.entries (now H) g.3 g.2 p.h.six apart ∙ may.host.same;
        room = knows.room_for_another (bubble_steps.heard the) j.entries (now H) g.3 g.2 p.h.six apart
            may.host.room may.room_for_both;
        may_test = may.host.may_test;
      }))
      g.1)
      (of_none the (came.did.handed ∙ ap (λ (o : Option Span). option_and_then (part_of (bubble_steps.heard the).input) o) none.handed)
      (came.did.late ∙ none.late))

  -- the packet is delivered to the client, the latest entry, and the relay trusts the client
  pub record PacketAtClient : Type 0 where
    pub last : ℕ
    pub later : List Full
    pub d : Delivery p.lab H q last
    pub long : length (wire H) ≡ suc last
    pub at : At H last p.r.at (embedded own) p.x
    pub no_reply : is_echo_reply (message_in (fields_in p.x)) ≡ false
    pub trusts : TrustsClient p H
    pub host : HostStays p H
    pub way : IsOpen p H

  -- the packet, at the client
  module _ (packet_comes : PacketAtClient) where
    open packet_comes use {last, later, d, long, at, no_reply, trusts, host, way}

    came : Arrival p.lab H q p.a.n (client p.a.c) (udp p.r.at (embedded own) p.x)
    came = steps.comes_to_client the last p.r.at p.x d at way

    reads : ReadsPayload (value_written None None (fields_in p.x)) p.x
    reads = payload the last (udp p.r.at (embedded own) p.x) at (fields_in p.x) (read_as p.x is.packet.packet)

    abbrev got : Entry
    got = steps.got the (record { x = p.x; src = is.packet.source; dst = is.packet.destination; little = is.small })

    -- from where the native isn't trusted the native is tested, and the packet is held, or the client holds as many as it may
    is_held : is_trusted_at p.r.at p.of_host ≡ false → Next p H q last later 5
    is_held untrusted =
        let nonce = steps.nonce the (record { x = p.x; src = is.packet.source; dst = is.packet.destination; little = is.small }) in
        let g = steps.tests_native the (record { x = p.x; src = is.packet.source; dst = is.packet.destination; little = is.small }) came.did host untrusted is.packet.no_bubble no_reply
        reads in
        let more = one_more H q last (udp (embedded own) (asks_at p.lab p.a.c) (test_of p nonce)) long g.0 in
        let next = next_is the came.calm came.did.moment in
        let relays = other_journal p.lab H q p.a.n p.k came.did.node (λ same. no_relay_client the (sym same)) in
        let h = knows.after_test (record {
          e = got;
          es = j.entries;
          n = now H;
          p = p.h.six;
          about = g.1.about ∙ ap (λ (z : Ip6). Some z) is.packet.source;
          moment = g.1.moment;
          full = holds_most p.of_host;
          fate_is = g.1.fate;
          peer = p.of_host;
          was = host.same;
        }) p.r.at p.x p.x nonce g.1.came g.1.packet g.1.drew in
        goes_on 3 (ground_on the next (same_after the got came.did.later g.2)) more.longer
        (tests nonce more.at
        (at_same_moment (HoldsAt p nonce) H q p.a.n (with_entry j got) came.did.moment came.did.later
        (record {
          listed = h.listed;
          waiting = h.waiting;
          held = h.held;
          tested = h.tested;
          untrusted = h.trust ∙ untrusted;
          stale = h.fresh ∙ (host.may_test untrusted).stale;
          before = untrusted;
        }))
        (at_same_moment (TrustsClientAt p) H q p.k (journal p.k H) came.did.moment relays trusts)
        (still_open the next way) untrusted)
        (of_none the (came.did.handed ∙ ap (λ (o : Option Span). option_and_then (part_of got.input) o) g.1.handed) (came.did.late ∙ g.1.late))

    -- else it is handed over at once
    is_handed : is_trusted_at p.r.at p.of_host ≡ true → Next p H q last later 5
    is_handed trusted = brings 4 (record {
      node = came.did.node;
      packet = inl (came.did.handed ∙ handed_at_once (setup p.lab p.a) j (now H) p.r.at p.x
          (steps.from_trusted the (record { x = p.x; src = is.packet.source; dst = is.packet.destination; little = is.small }) reads is.packet.no_bubble host trusted) (words p.lab p.a.n H));
    }) (no_stranger p.r.at p.of_host trusted) (inl trusted)

    pub at_client_packet : Next p H q last later 5
    at_client_packet = by (is_trusted_at p.r.at p.of_host) refl where
      by : (b : Bool) → is_trusted_at p.r.at p.of_host ≡ b → Next p H q last later 5
      by true e = is_handed e
      by false e = is_held e
