-- An address with the cone bit has no tries and nothing waiting.
use Rattle.relay_rules.proofs.Words.{Bool, ConeIsQuiet, Entry, Ep, Fate, Input, Ip6, IsQuiet, IsRelayJournal, LISTED_MS, List, Listing, Mention, None, Option, Peer, RelayGiven, RelaySeen, RelaySettings, Some, [], after, ap, arrived, cond, destination_in, due_by, due_of, false, false≢true, fields_in, first_due, first_line, first_waits, from_six, given, has_cone, is_about, is_listed, is_none, is_packet, is_some, is_younger, known, nat_le, no_peer, not, of_a_touch, of_another, of_no_touch, option_map, option_to_list, peer_at, peer_is_if, reception_lines, refl, relay_destination_lines, relay_entry, relay_given, relay_in, relay_mention, relay_mentions, relay_packet_lines, relay_reception_row, relay_seen, relay_six, relay_standing_of, relay_tick, relay_ticks, relay_transmission_row, same_ip6-true, skip, source_in, subst, sym, ticked, tries_after, true, unwrap_or, ℕ, ◌++◌, ◌||◌, ◌∙◌, ◌∷◌, ◌≡◌}
use Rattle.teredo_node.specs.declared.fate.Fate.TheVariants as fate
use Rattle.relay_rules.proofs.Fates.{fate_of_reception, fate_of_transmission, is_attempt, no_attempt}

-- ROWS

-- this is none
abbrev IsNone : Fate → Type 0
IsNone f = is_attempt f ≡ false

-- a datagram is no attempt
received_is_none : (a : RelaySeen) → is_attempt (relay_reception_row a) ≡ false
received_is_none a = skip IsNone (reception_lines a) [] fate.Unserved (refl, (refl, (refl, (refl, (refl, (refl, (refl, (refl, tt)))))))) refl

at_cone : (b : Bool) (ls : List (Bool × Fate)) (last : Fate) → b ≡ true → is_attempt (first_line ((b, fate.SentCone) ∷ ls) last) ≡ false
at_cone true ls last h = refl
at_cone false ls last h = absurd (false≢true h)

-- nor is a packet to an address with the cone bit
cone_is_none : (a : RelayGiven) → a.cone ≡ true → is_attempt (relay_transmission_row a) ≡ false
cone_is_none a cone =
    let rest : List (Bool × Fate) = (a.cone, fate.SentCone) ∷ (a.spent, fate.Barred) ∷ (a.full, fate.QueueFull) ∷ [] in
    let from_room : is_attempt (first_line ((a.trusted, fate.Sent) ∷ (not a.room, fate.PeersFull) ∷ rest) fate.Queued) ≡ false =
    skip IsNone ((a.trusted, fate.Sent) ∷ (not a.room, fate.PeersFull) ∷ []) rest fate.Queued (refl, (refl, tt)) (at_cone a.cone ((a.spent, fate.Barred) ∷ (a.full, fate.QueueFull) ∷ []) fate.Queued cone) in
    skip IsNone (relay_packet_lines a) (relay_destination_lines a) fate.Queued (refl, (refl, (refl, (refl, (refl, (refl, tt)))))) from_room

-- ONE FURTHER ENTRY

pub quiet_none : IsQuiet no_peer
quiet_none = record { tries = refl; waiting = refl }

tries_stay : (h t : Bool) (m : ℕ) (ms : List ℕ) → t ≡ false → ms ≡ [] → tries_after h t m ms ≡ []
tries_stay true t m ms e f = refl
tries_stay false false m ms e f = f
tries_stay false true m ms e f = absurd (false≢true (sym e))

waiting_stays : (b : Bool) (o : Option (List ℕ)) (xs : List (List ℕ)) → o ≡ None → xs ≡ [] → cond b [] (xs ++ option_to_list o) ≡ []
waiting_stays true o xs e f = refl
waiting_stays false o xs e f = rw (e, f) refl

quiet_after : (e : Mention) (x : Peer) → e.bearing.tries ≡ false → e.bearing.queues ≡ None → IsQuiet x → IsQuiet (after e x)
quiet_after e x t q h = record {
  tries = tries_stay e.bearing.hears e.bearing.tries e.moment x.tries t h.tries;
  waiting = waiting_stays (e.bearing.hears || e.bearing.gives_up) e.bearing.queues x.waiting q h.waiting;
}

pub quiet_if : (b : Bool) (x : Peer) → IsQuiet x → IsQuiet (unwrap_or (cond b (Some x) None) no_peer)
quiet_if true x h = h
quiet_if false x h = quiet_none

quiet_map : (e : Mention) (o : Option Peer) → e.bearing.tries ≡ false → e.bearing.queues ≡ None → IsQuiet (unwrap_or o no_peer) → IsQuiet (unwrap_or (option_map (after e) o) no_peer)
quiet_map e None t q h = quiet_none
quiet_map e (Some x) t q h = quiet_after e x t q h

abbrev AreQuiet : Ip6 → List Mention → Type 0
AreQuiet p ms = (n : ℕ) → IsQuiet (known ms n p)

quiet_more : (e : Mention) (ms : List Mention) (p : Ip6) → (is_about p e ≡ true → (e.bearing.tries ≡ false) × (e.bearing.queues ≡ None)) → AreQuiet p ms → AreQuiet p (e ∷ ms)
quiet_more e ms p none before n = by_about (is_about p e) refl where
  by_touch : (t : Bool) → is_about p e ≡ true → e.bearing.touches ≡ t → IsQuiet (known (e ∷ ms) n p)
  by_touch true about t =
      let parts = none about in
      subst (λ o. IsQuiet (unwrap_or o no_peer)) (sym (of_a_touch e ms n p about t)) (quiet_if (is_younger LISTED_MS n e.moment) (after e (known ms e.moment p)) (quiet_after e (known ms e.moment p) parts.0 parts.1 (before e.moment)))
  by_touch false about t =
      let parts = none about in
      subst (λ o. IsQuiet (unwrap_or o no_peer)) (sym (of_no_touch e ms n p about t)) (quiet_map e (peer_at ms n p) parts.0 parts.1 (before n))

  by_about : (b : Bool) → is_about p e ≡ b → IsQuiet (known (e ∷ ms) n p)
  by_about true about = by_touch e.bearing.touches about refl
  by_about false other = subst (λ o. IsQuiet (unwrap_or o no_peer)) (sym (of_another e ms n p other)) (before n)

-- WHAT AN ENTRY IS ABOUT

-- the entry neither tries nor queues, if it is about p
abbrev NoAttempt : Ip6 → Entry → Type 0
NoAttempt p e = is_about p (relay_mention e) ≡ true → ((relay_mention e).bearing.tries ≡ false) × ((relay_mention e).bearing.queues ≡ None)

by_fate : (p : Ip6) (e : Entry) → is_attempt e.step.fate ≡ false → NoAttempt p e
by_fate p e h about = no_attempt e.step.fate e h

of_datagram : (s : RelaySettings) (j : List Entry) (n : ℕ) (from : Ep) (x : List ℕ) (p : Ip6) → NoAttempt p (relay_in s j n from x)
unfolding relay_in
of_datagram s j n from x p = by_fate p (relay_in s j n from x) (ap is_attempt (fate_of_reception s (relay_standing_of j n (source_in x)) from x) ∙ received_is_none (relay_seen s (relay_standing_of j n (source_in x)) from x))

of_packet : (s : RelaySettings) (j : List Entry) (n : ℕ) (x : List ℕ) (p : Ip6) → has_cone p ≡ true → NoAttempt p (relay_six s j n x)
unfolding relay_six relay_given destination_in
of_packet s j n x p cone about =
    let is : p ≡ (fields_in x).dst = peer_is_if (is_packet x) p (fields_in x).dst about in
    let at : has_cone (fields_in x).dst ≡ true = subst (λ q. has_cone q ≡ true) is cone in
    by_fate p (relay_six s j n x) (ap is_attempt (fate_of_transmission s (relay_standing_of j n (destination_in x)) x) ∙ cone_is_none (relay_given s (relay_standing_of j n (destination_in x)) x) at) about

pub waits_no_more : (xs : List (List ℕ)) → xs ≡ [] → is_none xs ≡ false → ⊥
waits_no_more xs e h = false≢true (sym h ∙ ap (λ (ys : List (List ℕ)). is_none ys) e)

-- a peer that is due isn't quiet
due_waits : (ms : List Mention) (n : ℕ) (l : Listing) → due_by n (first_due ms n) ≡ Some l → is_none (known ms n l.who).waiting ≡ false
due_waits ms n l h = by_first (first_due ms n) refl h where
  waits : (k : Listing) → first_due ms n ≡ Some k → is_none (known ms n k.who).waiting ≡ false
  waits k e = let found = first_waits ms n k e in ap (λ (x : Peer). is_none x.waiting) (sym found.peer) ∙ found.waits

  by_due : (b : Bool) (k : Listing) → first_due ms n ≡ Some k → cond b (Some k) None ≡ Some l → is_none (known ms n l.who).waiting ≡ false
  by_due true k e g = subst (λ (x : Listing). is_none (known ms n x.who).waiting ≡ false) (ap (λ (o : Option Listing). unwrap_or o l) g) (waits k e)
  by_due false k e g = absurd (false≢true (ap is_some g))

  by_first : (o : Option Listing) → first_due ms n ≡ o → due_by n o ≡ Some l → is_none (known ms n l.who).waiting ≡ false
  by_first None e g = absurd (false≢true (ap is_some g))
  by_first (Some k) e g = by_due (nat_le (due_of k.peer) n) k e g

of_due : (s : RelaySettings) (j : List Entry) (n : ℕ) (p : Ip6) → AreQuiet p (relay_mentions j) → (due : Option Listing) → due_by n (first_due (relay_mentions j) n) ≡ due → NoAttempt p (relay_ticks s n due)
of_due s j n p quiet None e = by_fate p (relay_ticks s n None) refl
of_due s j n p quiet (Some l) e = λ about.
    let is : p ≡ l.who = same_ip6-true p l.who about in
    absurd (waits_no_more (known (relay_mentions j) n l.who).waiting (ap (λ q. (known (relay_mentions j) n q).waiting) (sym is) ∙ (quiet n).waiting) (due_waits (relay_mentions j) n l e))

of_tick : (s : RelaySettings) (j : List Entry) (n : ℕ) (p : Ip6) → AreQuiet p (relay_mentions j) → NoAttempt p (relay_tick s j n)
unfolding relay_tick
of_tick s j n p quiet = of_due s j n p quiet (due_by n (first_due (relay_mentions j) n)) refl

of_entry : (s : RelaySettings) (j : List Entry) (n : ℕ) (input : Input) (p : Ip6) → has_cone p ≡ true → AreQuiet p (relay_mentions j) → NoAttempt p (relay_entry s j n input)
of_entry s j n (arrived from x) p cone quiet = of_datagram s j n from x p
of_entry s j n (from_six x) p cone quiet = of_packet s j n x p cone
of_entry s j n ticked p cone quiet = of_tick s j n p quiet
of_entry s j n (given x) p cone quiet = by_fate p (relay_entry s j n (given x)) refl

all_quiet : (s : RelaySettings) (j : List Entry) (p : Ip6) → IsRelayJournal s j → has_cone p ≡ true → AreQuiet p (relay_mentions j)
unfolding relay_mentions peer_at is_listed
all_quiet s [] p a cone = λ n. quiet_none
all_quiet s (e ∷ j) p a cone =
    let before : AreQuiet p (relay_mentions j) = all_quiet s j p a.1 cone in
    let none : NoAttempt p e = subst (λ (x : Entry). NoAttempt p x) (sym a.0.is) (of_entry s j e.moment e.input p cone before) in
    quiet_more (relay_mention e) (relay_mentions j) p none before

pub cone_is_quiet : ConeIsQuiet
cone_is_quiet s j n p a cone = all_quiet s j p a cone n
