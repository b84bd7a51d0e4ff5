-- The steps of the relay's bubble after a packet to a native host: at the client, and of the client's answer at the relay.
use Rattle.theory_first_natives.proofs.Words.{At, Delivery, Entry, Fate, Ip6, Journal, Peer, Some, ap, asks_at, at_same_moment, bearing_of, bubble_bytes, embedded, false, is_changed, is_fresh, journal, length, mention, now, one_more, suc, sym, true, udp, wire, with_entry, ℕ, ◌∙◌, ◌≡◌}
use Rattle.theory_first_natives.proofs.from_native.Trio.{Trio, IsTrio}
use Rattle.theory_first_natives.proofs.Apart.{sixes_apart}
use Rattle.theory_first_natives.proofs.from_native.TrioStages.{RelayKeepsAt, RelayKeeps, IsOpen}
use Rattle.theory_first_natives.proofs.from_native.TrioAfter.{no_relay_client}
use Rattle.theory_first_natives.proofs.from_native.TrioAfter.{next_is, still_open, ground_on, same_after}
use Rattle.theory_first_natives.proofs.from_native.RelaySteps.{comes_by_datagram, bubble_frees}
use Rattle.theory_first_natives.proofs.from_native.ClientSteps as steps
use Rattle.theory_first_natives.proofs.from_native.BubbleSteps as bubble_steps
use Rattle.theory_first_natives.proofs.tables.ServerTells.{told}
use Rattle.theory_first_natives.proofs.tables.OthersKnown.{others_listed, others_known}
use Rattle.theory_first_natives.proofs.to_native.ToStages.{EnquiryRecord, in_trio, WaitsAt, Waits, MayList, answers, replies}
use Rattle.theory_first_natives.proofs.to_native.ToStages.{ToNext, goes_on}
use Rattle.theory_first_natives.proofs.to_native.ToSteps.{stays, ground_stays}

module _ (the : EnquiryRecord) where
  open the use {p, asked, H, q, r}

  abbrev t : Trio
  t = p.trio

  abbrev is : IsTrio t
  is = r.trio

  abbrev own : Ip6
  own = t.a.own

  abbrev j : Journal
  j = journal t.a.n H

  -- an entry about the relay leaves the packet waiting for the native
  waits_on : (e : Entry) → e.peer ≡ Some t.r.six → is_changed e.step.fate ≡ false → (mention e).bearing.touches ≡ true → Waits p H
      → WaitsAt p (with_entry j e) (now H)
  waits_on e about keeps touches waits =
      let apart = sixes_apart t.lab.topology is.rules t.k t.m t.r t.h is.relay_there is.native_there in
      let same = others_known e j.entries (now H) about keeps touches t.h.six apart in
      record {
        listed = others_listed e j.entries (now H) about keeps touches t.h.six apart ∙ waits.listed;
        waiting = ap (λ (k : Peer). k.waiting) same ∙ waits.waiting;
        tested = ap (λ (k : Peer). k.nonce) same ∙ waits.tested;
        stale = ap (is_fresh (now H)) same ∙ waits.stale;
      }

  -- the relay's bubble, at the client
  pub bubble_at_client : (last : ℕ) → Delivery t.lab H q last → length (wire H) ≡ suc last
      → At H last (asks_at t.lab t.a.c) (embedded own) (told t is) → RelayKeeps t H → Waits p H → MayList p H → ToNext p H q last 5
  bubble_at_client last d long at keeps waits may =
      let came = steps.comes_to_client (in_trio the) last (asks_at t.lab t.a.c) (told t is) d at r.ground.way in
      let heard = bubble_steps.heard (in_trio the) in
      let g = bubble_steps.answers_bubble (in_trio the) may.room may.unbarred came.did in
      let more = one_more H q last (udp (embedded own) t.r.at (bubble_bytes own t.r.six)) long g.0 in
      let next = next_is (in_trio the) came.calm came.did.moment in
      goes_on 3 (ground_on (in_trio the) next (same_after (in_trio the) heard came.did.later g.4)) more.longer
      (answers more.at
      (stays the (RelayKeepsAt t) t.a.n t.k came.did.node (λ same. no_relay_client (in_trio the) (sym same)) came.did.moment keeps)
      (at_same_moment (WaitsAt p) H q t.a.n (with_entry j heard) came.did.moment came.did.later
      (waits_on heard g.3 (ap is_changed g.2) (ap (λ (f : Fate). (bearing_of f heard).touches) g.2) waits))
      g.1)

  -- the client's bubble, at the relay
  pub bubble_at_relay : (last : ℕ) → Delivery t.lab H q last → length (wire H) ≡ suc last
      → At H last (embedded own) t.r.at (bubble_bytes own t.r.six) → RelayKeeps t H → Waits p H → IsOpen t H → ToNext p H q last 4
  bubble_at_relay last d long at keeps waits way =
      let came = comes_by_datagram (in_trio the) last (embedded own) (bubble_bytes own t.r.six) d at in
      let g = bubble_frees (in_trio the) came.did keeps in
      let more = one_more H q last (udp t.r.at (embedded own) t.x) long g.0 in
      let client = no_relay_client (in_trio the) in
      goes_on 2 (ground_stays the t.k came.did.node client came.calm came.did.moment) more.longer
      (replies more.at g.1.trusted g.1.waiting
      (stays the (WaitsAt p) t.k t.a.n came.did.node client came.did.moment waits)
      (still_open (in_trio the) (next_is (in_trio the) came.calm came.did.moment) way))
