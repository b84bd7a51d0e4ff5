-- The steps of a native's answer to a first packet: through the relay, and to the client's host.
use Rattle.theory_first_natives.proofs.Words.{At, Delivery, Entry, Full, GoesBetween, HandsAnswer, Ip6, Item, Journal, List, Option, Settings, Some, [], address_stays, all_leaves, ap, embedded, false, fields_in, inl, is_big, is_trusted_at, journal, known, length, mentions, native_in, no_more, now, one_more, read_as, releases, setup, subst, suc, sym, turn, udp, unwrap_or, wire, words, ℕ, ◌∙◌, ◌≡◌}
use Rattle.theory_first_natives.proofs.from_native.Trio.{Trio}
use Rattle.theory_first_natives.proofs.from_native.TrioStages.{OnSix, TrustsClient, IsOpen}
use Rattle.theory_first_natives.proofs.from_native.TrioAfter.{payload, sends, no_relay_client, next_is, still_open, ground_on, same_after}
use Rattle.theory_first_natives.proofs.from_native.TrioSteps.{for_client}
use Rattle.theory_first_natives.proofs.from_native.RelaySteps.{comes_by_six, goes_at_once}
use Rattle.theory_first_natives.proofs.from_native.ClientSteps as steps
use Rattle.theory_first_natives.proofs.to_native.ToAnswer.{answer_goes, answer_is_small}
use Rattle.theory_first_natives.proofs.to_native.ToReplied as replied
use Rattle.theory_first_natives.proofs.to_native.ToStages.{EnquiryRecord, in_trio, BelievesAt, Believes, comes_back, is_over, AnswerNext, goes_back, ends}
use Rattle.theory_first_natives.proofs.to_native.ToSteps.{stays, ground_stays, asked_of}

module _ (the : EnquiryRecord) (y : List ℕ) (same : (native_in the.p.packet).packet ≡ Some y) where
  open the use {p, asked, H, q, r}

  abbrev t : Trio
  t = p.trio

  abbrev own : Ip6
  own = t.a.own

  abbrev s : Settings
  s = setup t.lab t.a

  abbrev j : Journal
  j = journal t.a.n H

  between : GoesBetween t.h.six own y
  between = answer_goes own t.h.six p.packet y (asked_of the) same

  small : is_big (fields_in y) ≡ false
  small = answer_is_small own t.h.six p.packet y (asked_of the) same

  -- at the relay
  pub answer_at_relay : {last : ℕ} (later : List Full) → Delivery t.lab H q last → length (wire H) ≡ suc last → OnSix H last (Some t.k) y
      → TrustsClient t H → Believes p H → IsOpen t H → AnswerNext p H q last later 2
  answer_at_relay {last} later d long at trusts believes way =
      let came = comes_by_six (in_trio the) last y d at in
      let may = for_client (in_trio the) y between.packet between.source between.destination small in
      let more = one_more H q last (udp t.r.at (embedded own) y) long
      (goes_at_once (in_trio the) (record { x = y; one = between.packet; to = between.destination; for_client = may }) came.did trusts) in
      let client = no_relay_client (in_trio the) in
      goes_back (ground_stays the t.k came.did.node client came.calm came.did.moment) more.longer
      (comes_back y same more.at (stays the (BelievesAt p) t.k t.a.n came.did.node client came.did.moment believes)
      (still_open (in_trio the) (next_is (in_trio the) came.calm came.did.moment) way))

  -- at the client, whose host is handed it
  pub answer_at_client : {last : ℕ} (later : List Full) → Delivery t.lab H q last → length (wire H) ≡ suc last → At H last t.r.at (embedded own) y
      → Believes p H → IsOpen t H → AnswerNext p H q last later 1
  answer_at_client {last} later d long at believes way =
      let src = between.source in
      let dst = between.destination in
      let came = steps.comes_to_client (in_trio the) last t.r.at y d at way in
      let reads = payload (in_trio the) last (udp t.r.at (embedded own) y) at (fields_in y) (read_as y between.packet) in
      let got : Entry = steps.got (in_trio the) (record { x = y; src = src; dst = dst; little = small }) in
      let g = replied.hands_it (record { s = s; j = j; n = now H; at = t.r.at; p = fields_in y; is = steps.from_native (in_trio the) (record { x = y; src = src; dst = dst; little = small }) }) y reads (words t.lab t.a.n H)
      between.no_bubble (ap (λ (z : Ip6). is_trusted_at t.r.at (known (mentions j.entries) (now H) z)) src ∙ believes.trusted) in
      let gone = all_leaves (sends (in_trio the) got came.did) []
      (g.hears.sends ∙ ap (λ (z : Ip6). releases t.r.at (known (mentions j.entries) (now H) z).waiting) src ∙ ap (releases t.r.at) believes.waiting) tt in
      let next = next_is (in_trio the) came.calm came.did.moment in
      let by : HandsAnswer t.a.n y q = record {
        node = came.did.node;
        packet = came.did.handed ∙ g.handed;
        rule = came.did.fate ∙ g.hears.fate;
      } in
      ends (ground_on (in_trio the) next (same_after (in_trio the) got came.did.later (address_stays s j got (ap turn g.hears.fate))))
      (ap (λ (xs : List Item). length xs) (no_more H q gone.made) ∙ long)
      (is_over (λ z other. inl (subst (λ (x : List ℕ). HandsAnswer t.a.n x q) (ap (λ (o : Option (List ℕ)). unwrap_or o y) (sym same ∙ other)) by)))
