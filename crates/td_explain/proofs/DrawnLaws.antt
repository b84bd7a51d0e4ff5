-- What waits after the output of one more record is noted.
use Rattle.td_explain.proofs.Words.{Bool, Datagram, Ends, HasEnds, HasKey, IsQueue, KeepsWaits, LinksLast, List, None, Option, Queues, Send, ServerSettings, Some, Waits, [], ap, append-nil, arith, cases_Bool, cond, cond-false, cond-true, datagram, drop, drop-append-le, endpoint, ends_waiting, false, first_and_last, first_of, inl, inr, is_audited, length, length-append, length-map, link_at, map, map-append, on_wire, output, output_at, own_endpoint, own_places, refl, reply_to, same_datagram, same_is, same_itself, same_of, server_row, side_with, slice_get, subst, suc, sym, times, true, waiting_for, zero, ℕ, ◌++◌, ◌+◌, ◌<◌, ◌∙◌, ◌∷◌, ◌≡◌, ◌≤◌}
use Rattle.td_explain.proofs.OutputLaws.{Held, own_more, own_none}
use Rattle.td_explain.proofs.CountLaws.{at_seam, one_of}
use Rattle.td_explain.proofs.ChainLaws.{Front, front, begins_queue, last_free, last_owned, joins_queue, queue_stays, same_queue, grown_queue}

got_before : {A : Type 0} (xs ys : List A) (n : ℕ) (x : A) → slice_get xs n ≡ Some x → slice_get (xs ++ ys) n ≡ Some x
got_before [] ys n x is = absurd cc
got_before (y ∷ xs) ys zero x is = is
got_before (y ∷ xs) ys (suc n) x is = got_before xs ys n x is

got_within : {A : Type 0} (xs : List A) (n : ℕ) (x : A) → slice_get xs n ≡ Some x → n < length xs
got_within [] n x is = absurd cc
got_within (y ∷ xs) zero x is = omega arith
got_within (y ∷ xs) (suc n) x is = let less = got_within xs n x is in omega (arith, less)

outputs_grow : (s : ServerSettings) (held : Held) (h : Option Datagram) (e : Datagram) (place : ℕ) → output_at s held place ≡ Some (Some e)
    → output_at s (held ++ h ∷ []) place ≡ Some (Some e)
outputs_grow s held h e place is =
    ap (λ (t : Held). slice_get t place) (map-append (output s) held (h ∷ []))
    ∙ got_before (map (output s) held) (output s h ∷ []) place (Some e) is

output_now : (s : ServerSettings) (held : Held) (h : Option Datagram) (place : ℕ) → place ≡ length held → output_at s (held ++ h ∷ []) place ≡ Some (output s h)
output_now s held h place is =
    let long : place ≡ length (map (output s) held) = is ∙ sym (length-map held (output s)) in
    ap (λ (t : Held). slice_get t place) (map-append (output s) held (h ∷ []))
    ∙ ap (slice_get (map (output s) held ++ output s h ∷ [])) long ∙ at_seam (map (output s) held) (output s h) []

output_within : (s : ServerSettings) (held : Held) (e : Datagram) (place : ℕ) → output_at s held place ≡ Some (Some e) → place < length held
output_within s held e place is =
    let less = got_within (map (output s) held) place (Some e) is in
    omega (arith, less, length-map held (output s))

-- nothing is drawn
pub waits_silent : (s : ServerSettings) (w : Waits) (came held : Held) (h : Option Datagram) → output s h ≡ None → KeepsWaits s w came held
    → KeepsWaits s w came (held ++ h ∷ [])
waits_silent s w came held h none keeps = record {
  licensed = λ e fits from. let most = keeps.licensed e fits from in omega (arith, most, ap length (own_none s e held h none));
  queue = λ e fits from.
      subst (λ (ps : List ℕ). IsQueue (output_at s (held ++ h ∷ [])) (link_at w.links) (ends_waiting w e) e (drop (times e came) ps)) (sym (own_none s e held h none))
      (grown_queue (output_at s held) (output_at s (held ++ h ∷ [])) (link_at w.links) (ends_waiting w e) e (waiting_for s e came held) (keeps.queue e fits from)
      (outputs_grow s held h e));
  unlinked = λ place far. keeps.unlinked place (omega (arith, far, length-append held (h ∷ [])));
}

-- what the server sends is from it
sent_audited : (s : ServerSettings) (xs : List Send) (d : Datagram) → on_wire s xs ≡ Some d → is_audited s d.src ≡ true
sent_audited s [] d is = absurd cc
sent_audited s (x ∷ xs) d is = subst (λ (y : Datagram). is_audited s y.src ≡ true) (one_of (datagram (endpoint s x.side) x.to x.bytes) d is) (own_endpoint s x.side)

reply_audited : (s : ServerSettings) (q d : Datagram) → reply_to s q ≡ Some d → is_audited s d.src ≡ true
unfolding reply_to
reply_audited s q d is = sent_audited s (server_row s (side_with s q.dst) q.src q.body).sends d is

output_audited : (s : ServerSettings) (h : Option Datagram) (d : Datagram) → output s h ≡ Some d → is_audited s d.src ≡ true
output_audited s None d is = absurd cc
output_audited s (Some q) d is = by (is_audited s q.dst) is
  where
    by : (b : Bool) → (let none : Option Datagram = None in cond b (reply_to s q) none) ≡ Some d → is_audited s d.src ≡ true
    by true sent = reply_audited s q d sent
    by false sent = absurd cc

-- a datagram is the output of the next place
pub record Draws (s : ServerSettings) (old : Waits) (came held : Held) (h : Option Datagram) (d : Datagram) (place : ℕ) : Type 0 where
  pub fits : HasKey d
  pub place_is : place ≡ length held
  pub draws : output s h ≡ Some d
  pub keeps : KeepsWaits s old came held

-- d has a queue, and the others keep theirs
record Joins (s : ServerSettings) (old new : Waits) (came held more : Held) (d : Datagram) (place : ℕ) (ends : Ends) : Type 0 where
  pub ends_are : HasEnds old new d (Some ends)
  pub here : IsQueue (output_at s more) (link_at new.links) (Some ends) d (waiting_for s d came held ++ place ∷ [])
  pub elsewhere : (e : Datagram) → HasKey e → is_audited s e.src ≡ true → same_datagram e d ≡ false
      → IsQueue (output_at s more) (link_at new.links) (ends_waiting old e) e (waiting_for s e came held)
  pub unlinked : (other : ℕ) → length held + 1 ≤ other → link_at new.links other ≡ 0

module _ (s : ServerSettings) (old : Waits) (came held : Held) (h : Option Datagram) (d : Datagram) (place : ℕ) (a : Draws s old came held h d place) where
  audited : is_audited s d.src ≡ true
  audited = output_audited s h d a.draws

  -- the queues before, with one more output behind them
  before : (e : Datagram) → HasKey e → is_audited s e.src ≡ true
      → IsQueue (output_at s (held ++ h ∷ [])) (link_at old.links) (ends_waiting old e) e (waiting_for s e came held)
  before e fits from =
      grown_queue (output_at s held) (output_at s (held ++ h ∷ [])) (link_at old.links) (ends_waiting old e) e (waiting_for s e came held)
      (a.keeps.queue e fits from) (outputs_grow s held h e)

  owned : output_at s (held ++ h ∷ []) place ≡ Some (Some d)
  owned = output_now s held h place a.place_is ∙ ap (λ (o : Option Datagram). let x : Option (Option Datagram) = Some o in x) a.draws

  more_waits : (e : Datagram) → HasKey e → is_audited s e.src ≡ true
      → waiting_for s e came (held ++ h ∷ []) ≡ waiting_for s e came held ++ cond (same_datagram e d) (length held ∷ []) []
  more_waits e fits from =
      ap (drop (times e came)) (own_more s e held h d a.draws)
      ∙ drop-append-le (times e came) (own_places s e held) (cond (same_datagram e d) (length held ∷ []) []) (a.keeps.licensed e fits from)

  still_licensed : (e : Datagram) → HasKey e → is_audited s e.src ≡ true → times e came ≤ length (own_places s e (held ++ h ∷ []))
  still_licensed e fits from =
      let most = a.keeps.licensed e fits from in
      let long = ap length (own_more s e held h d a.draws) in
      omega (arith, most, long, length-append (own_places s e held) (cond (same_datagram e d) (length held ∷ []) []))

  joined : (new : Waits) (ends : Ends) → Joins s old new came held (held ++ h ∷ []) d place ends → KeepsWaits s new came (held ++ h ∷ [])
  joined new ends j = record {
    licensed = still_licensed;
    queue = λ e fits from.
        elim (cases_Bool (same_datagram e d)) [
          | inl same ↦
              let all : waiting_for s d came (held ++ h ∷ []) ≡ waiting_for s d came held ++ place ∷ [] =
              more_waits d a.fits audited ∙ ap (λ (b : Bool). waiting_for s d came held ++ cond b (length held ∷ []) []) (same_itself d)
              ∙ ap (λ (n : ℕ). waiting_for s d came held ++ n ∷ []) (sym a.place_is) in
              let now = same_queue (output_at s (held ++ h ∷ [])) (link_at new.links) (link_at new.links) (Some ends) (ends_waiting new d) d
              (waiting_for s d came held ++ place ∷ []) (waiting_for s d came (held ++ h ∷ [])) j.here refl
              (j.ends_are d a.fits ∙ cond-true _ (Some ends) (ends_waiting old d) (same_itself d)) all in
              subst (λ (x : Datagram). IsQueue (output_at s (held ++ h ∷ [])) (link_at new.links) (ends_waiting new x) x (waiting_for s x came (held ++ h ∷ [])))
              (sym (same_is e d same)) now
          | inr differ ↦
              let all : waiting_for s e came (held ++ h ∷ []) ≡ waiting_for s e came held =
              more_waits e fits from ∙ ap (λ (b : Bool). waiting_for s e came held ++ cond b (length held ∷ []) []) differ
              ∙ append-nil (waiting_for s e came held) in
              same_queue (output_at s (held ++ h ∷ [])) (link_at new.links) (link_at new.links) (ends_waiting old e) (ends_waiting new e) e
              (waiting_for s e came held) (waiting_for s e came (held ++ h ∷ [])) (j.elsewhere e fits from differ) refl
              (j.ends_are e fits ∙ cond-false _ (Some ends) (ends_waiting old e) differ) all
        ];
    unlinked = λ other far. j.unlinked other (omega (arith, far, length-append held (h ∷ [])));
  }

  -- nothing waited
  first_one : (new : Waits) → ends_waiting old d ≡ None → new.links ≡ old.links → HasEnds old new d (Some (first_and_last place place))
      → KeepsWaits s new came (held ++ h ∷ [])
  first_one new none links ends =
      let same : link_at new.links ≡ link_at old.links = ap link_at links in
      let place_is = a.place_is in
      let free : link_at old.links place ≡ 0 = a.keeps.unlinked place (omega (arith, place_is)) in
      let queue = same_queue (output_at s (held ++ h ∷ [])) (link_at old.links) (link_at new.links) (ends_waiting old d) None d
      (waiting_for s d came held) (waiting_for s d came held) (before d a.fits audited) same (sym none) refl in
      joined new (first_and_last place place) (record {
        ends_are = ends;
        here = begins_queue (output_at s (held ++ h ∷ [])) (link_at new.links) place d (waiting_for s d came held) queue
            (ap (λ (l : ℕ → ℕ). l place) same ∙ free) owned;
        elsewhere = λ e fits from differ.
            same_queue (output_at s (held ++ h ∷ [])) (link_at old.links) (link_at new.links) (ends_waiting old e) (ends_waiting old e) e
            (waiting_for s e came held) (waiting_for s e came held) (before e fits from) same refl refl;
        unlinked = λ other far. ap (λ (l : ℕ → ℕ). l other) same ∙ a.keeps.unlinked other (omega (arith, far));
      })

  -- some waited
  later_one : (new : Waits) (had : Ends) → ends_waiting old d ≡ Some had → LinksLast old.links new.links (Some had) place
      → HasEnds old new d (Some (first_and_last had.first place)) → KeepsWaits s new came (held ++ h ∷ [])
  later_one new had some links ends =
      let outputs = output_at s (held ++ h ∷ []) in
      let link = link_at old.links in
      let queue = waiting_for s d came held in
      let f : Front outputs link had d queue =
      front outputs link had d queue (subst (λ (o : Option Ends). IsQueue outputs link o d queue) some (before d a.fits audited)) in
      let old_front : Front (output_at s held) link had d queue =
      front (output_at s held) link had d queue (subst (λ (o : Option Ends). IsQueue (output_at s held) link o d queue) some (a.keeps.queue d a.fits audited)) in
      let sooner : had.last < length held = output_within s held d had.last (last_owned (output_at s held) link had d queue old_front) in
      let place_is = a.place_is in
      let others_free : (other : ℕ) → length held ≤ other → link_at new.links other ≡ 0 =
      λ other far. links.1 other (λ is. omega (arith, is, far, sooner)) ∙ a.keeps.unlinked other far in
      joined new (first_and_last had.first place) (record {
        ends_are = ends;
        here = joins_queue outputs link (link_at new.links) had place d queue f links.0 (omega (arith, sooner, place_is))
            (others_free place (omega (arith, place_is))) links.1 owned;
        elsewhere = λ e fits from differ.
            queue_stays outputs link (link_at new.links) had.last (ends_waiting old e) e (waiting_for s e came held) (before e fits from)
            (last_free outputs link had d queue f)
            (λ is. (let both : same_datagram e d ≡ true = same_of e d (one_of e d (one_of (Some e) (Some d) (sym is ∙ last_owned outputs link had d queue f))) in
            let never = sym both ∙ differ in absurd cc)) links.1;
        unlinked = λ other far. others_free other (omega (arith, far));
      })

  pub drawn_keeps : (new : Waits) → Queues old new d place → KeepsWaits s new came (held ++ h ∷ [])
  drawn_keeps new q = by q.had q.had_is q.linked q.ends_are
    where
      by : (had : Option Ends) → ends_waiting old d ≡ had → LinksLast old.links new.links had place
          → HasEnds old new d (Some (first_and_last (first_of had place) place)) → KeepsWaits s new came (held ++ h ∷ [])
      by None none links ends = first_one new none links ends
      by (Some had) some links ends = later_one new had some links ends
