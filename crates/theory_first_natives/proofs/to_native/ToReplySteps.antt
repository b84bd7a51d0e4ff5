-- The step of the native's reply to the test at the client, for which a packet of its host waits: the packet goes to the relay.
use Rattle.theory_first_natives.proofs.Words.{Arrival, At, Bool, Delivery, Entry, Fate, Ip6, Journal, List, None, Peer, ReadsPayload, Settings, Some, [], address_stays, all_leaves, ap, at_same_moment, client, embedded, false, fields_in, is_fresh, is_listed, is_trusted_at, journal, known, length, mentions, message_in, now, one_more, read_as, refl, releases, says_nothing, send, setup, suc, sym, true, turn, udp, value_written, wire, with_entry, words, ℕ, ◌∙◌, ◌∷◌, ◌≡◌}
use Rattle.teredo_node.specs.declared.fate.Fate.TheVariants as fate
use Rattle.theory_first_natives.proofs.tables.NativeReads.{answer, reply_message}
use Rattle.theory_first_natives.proofs.from_native.Trio.{Trio, IsTrio, relay_elsewhere}
use Rattle.theory_first_natives.proofs.from_native.TrioStages.{TrustsClientAt, TrustsClient, IsOpen}
use Rattle.theory_first_natives.proofs.from_native.TrioAfter.{payload, sends, no_relay_client}
use Rattle.theory_first_natives.proofs.from_native.TrioAfter.{next_is, still_open, ground_on, same_after}
use Rattle.theory_first_natives.proofs.tables.ClientTests.{IsFromNative}
use Rattle.theory_first_natives.proofs.from_native.ClientSteps as steps
use Rattle.theory_first_natives.proofs.tables.ToRelay.{RelayIdleAt, RelayIdle}
use Rattle.theory_first_natives.proofs.to_native.ToKnows as knows
use Rattle.theory_first_natives.proofs.to_native.ToReplied as replied
use Rattle.theory_first_natives.proofs.to_native.ToStages.{EnquiryRecord, in_trio, Waits, BelievesAt, goes}
use Rattle.theory_first_natives.proofs.to_native.ToStages.{ToNext, goes_on}
use Rattle.theory_first_natives.proofs.to_native.ToSteps.{stays}
use Rattle.theory_first_natives.proofs.from_native.OnItsWay.{six_of_own, six_of_host}

module _ (the : EnquiryRecord) where
  open the use {p, asked, H, q, r}

  abbrev t : Trio
  t = p.trio

  abbrev is : IsTrio t
  is = r.trio

  abbrev own : Ip6
  own = t.a.own

  abbrev s : Settings
  s = setup t.lab t.a

  abbrev j : Journal
  j = journal t.a.n H

  says : message_in (fields_in t.x) ≡ Some (answer p.nonce)
  says = ap (λ (z : List ℕ). message_in (fields_in z)) asked.reply
      ∙ reply_message own t.h.six (six_of_own (in_trio the)) (six_of_host (in_trio the)) p.nonce

  -- the reply to the test is delivered, the latest entry, while the client waits for it
  pub record ReplyComes : Type 0 where
    pub last : ℕ
    pub d : Delivery t.lab H q last
    pub long : length (wire H) ≡ suc last
    pub at : At H last t.r.at (embedded own) t.x
    pub trusts : TrustsClient t H
    pub idle : RelayIdle t H
    pub waits : Waits p H
    pub way : IsOpen t H

  -- at the client
  module _ (reply_comes : ReplyComes) where
    open reply_comes use {last, d, long, at, trusts, idle, waits, way}

    abbrev src : (fields_in t.x).src ≡ t.h.six
    src = is.packet.source

    came : Arrival t.lab H q t.a.n (client t.a.c) (udp t.r.at (embedded own) t.x)
    came = steps.comes_to_client (in_trio the) last t.r.at t.x d at way

    reads : ReadsPayload (value_written None None (fields_in t.x)) t.x
    reads = payload (in_trio the) last (udp t.r.at (embedded own) t.x) at (fields_in t.x) (read_as t.x is.packet.packet)

    from : IsFromNative s j t.r.at (fields_in t.x)
    from = steps.from_native (in_trio the) (record { x = t.x; src = src; dst = is.packet.destination; little = is.small })

    abbrev got : Entry
    got = steps.got (in_trio the) (record { x = t.x; src = src; dst = is.packet.destination; little = is.small })

    abbrev host : Ip6 → Peer
    host z = known (mentions j.entries) (now H) z

    -- what waits goes to the relay
    lets_go : {f : Fate} → replied.Hears (record { s = s; j = j; n = now H; at = t.r.at; p = fields_in t.x; is = from }) f t.x got → turn f ≡ says_nothing
        → BelievesAt p (with_entry j got) (now H) → ToNext p H q last 3
    lets_go g none believes =
        let gone = all_leaves (sends (in_trio the) got came.did) (send t.r.at p.packet ∷ [])
        (g.sends ∙ ap (λ (z : Ip6). releases t.r.at (host z).waiting) src ∙ ap (releases t.r.at) waits.waiting)
        (relay_elsewhere t is, tt) in
        let more = one_more H q last (udp (embedded own) t.r.at p.packet) long gone.made in
        let next = next_is (in_trio the) came.calm came.did.moment in
        let relays : (t.a.n ≡ t.k → ⊥) = λ same. no_relay_client (in_trio the) (sym same) in
        goes_on 1 (ground_on (in_trio the) next (same_after (in_trio the) got came.did.later (address_stays s j got (ap turn g.fate ∙ none))))
        more.longer
        (goes more.at (stays the (TrustsClientAt t) t.a.n t.k came.did.node relays came.did.moment trusts)
        (stays the (RelayIdleAt t) t.a.n t.k came.did.node relays came.did.moment idle)
        (at_same_moment (BelievesAt p) H q t.a.n (with_entry j got) came.did.moment came.did.later believes)
        (still_open (in_trio the) next way))

    about : {f : Fate} → replied.Hears (record { s = s; j = j; n = now H; at = t.r.at; p = fields_in t.x; is = from }) f t.x got → got.peer ≡ Some t.h.six
    about g = g.about ∙ ap (λ (z : Ip6). Some z) src

    by_rule : (b : Bool) → is_trusted_at t.r.at (host t.h.six) ≡ b → ToNext p H q last 3
    by_rule true trusted =
        let g = (replied.hands_it (record { s = s; j = j; n = now H; at = t.r.at; p = fields_in t.x; is = from }) t.x reads (words t.lab t.a.n H) is.packet.no_bubble
        (ap (λ (z : Ip6). is_trusted_at t.r.at (host z)) src ∙ trusted)).hears in
        let k = knows.after_rule_one (record { e = got; es = j.entries; n = now H; p = t.h.six; about = about g; moment = g.moment }) t.r.at g.fate trusted in
        lets_go g refl (record { waiting = k.waiting; trusted = k.trusted })
    by_rule false untrusted =
        let g = replied.believes_it (record { s = s; j = j; n = now H; at = t.r.at; p = fields_in t.x; is = from }) t.x reads (words t.lab t.a.n H) {nonce = p.nonce} (record {
          listed = ap (λ (z : Ip6). is_listed z (now H) (mentions j.entries)) src ∙ waits.listed;
          tested = ap (λ (z : Ip6). (host z).nonce) src ∙ waits.tested;
          untrusted = ap (λ (z : Ip6). is_trusted_at t.r.at (host z)) src ∙ untrusted;
          stale = ap (λ (z : Ip6). is_fresh (now H) (host z)) src ∙ waits.stale;
        }) says in
        let k = knows.after_rule_two (record { e = got; es = j.entries; n = now H; p = t.h.six; about = about g; moment = g.moment }) t.r.at t.x g.fate g.came in
        lets_go g refl (record { waiting = k.waiting; trusted = k.trusted })

    pub reply_at_client : ToNext p H q last 3
    reply_at_client = by_rule (is_trusted_at t.r.at (host t.h.six)) refl
