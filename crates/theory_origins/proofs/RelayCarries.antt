-- What a relay sends: bubbles, and packets that came on the IPv6 side, now or before.
use Rattle.theory_origins.proofs.Words.{AllByRecursion, AreMadeInputs, Bool, Contains, Entry, Ep, Fate, IfSome, Input, Ip6, IsIp6, IsMadeInput, IsRelayJournal, List, Listing, Mention, None, Option, RelaySettings, RelayStanding, Send, Some, Value, [], ap, arith, arrived, bubble_to, destination_in, destination_made, due_by, due_is, embedded, false, false≢true, fate_of_relay_reception, fields_in, from_six, given, given_has, is_about, is_barred, is_queued, is_spent, kept, known, map, never_queued, queued_by, refl, relay_entry, relay_first_peer, relay_given, relay_in, relay_known_in, relay_mention, relay_mentions, relay_peer_of_due, relay_queues, relay_reception, relay_reception_row, relay_reception_step, relay_seen, relay_six, relay_standing_at, relay_standing_of, relay_tick, relay_tick_step, relay_transmission, relay_transmission_row, relay_transmission_step, relay_tries_peer, releases, send, source_in, subst, suc, sym, ticked, true, unspecified, unwrap_or, value_in, waiting_is_kept, ℕ, ◌∙◌, ◌∷◌, ◌≡◌}
use Rattle.teredo_node.specs.declared.fate.Fate.TheVariants as fate

-- one of these entries was given x on the IPv6 side
abbrev pub CameIn : List Entry → List ℕ → Type 0
CameIn es x = (q : Entry) × Contains es q × (q.input ≡ from_six x)

-- a bubble, or such a packet with nothing in front: of an entry with this input, or of one before it
pub data IsRelayPart (s : RelaySettings) (es : List Entry) (input : Input) (z : Send) : Type 0 where
  tries : (p : Ip6) → IsIp6 p → z ≡ bubble_to s p → IsRelayPart s es input z
  goes_now : (to : Ep) (x : List ℕ) → input ≡ from_six x → z ≡ send to x → IsRelayPart s es input z
  waited : (to : Ep) (x : List ℕ) → CameIn es x → z ≡ send to x → IsRelayPart s es input z

-- WHAT WAITS

module _ (s : RelaySettings) (all : List Entry) where
  abbrev Of : List ℕ → Type 0
  Of = CameIn all

  abbrev Queues : Entry → Type 0
  Queues e = IfSome (relay_mention e).bearing.queues Of

  did : (j : List Entry) (m : ℕ) (i : Input) → ((x : List ℕ) → i ≡ from_six x → Of x) → Queues (relay_entry s j m i)
  unfolding relay_in relay_six relay_tick
  did j m (arrived from x) of = queued_by (relay_reception s (relay_standing_of j m (source_in x)) from x).fate (relay_entry s j m (arrived from x)) Of
      (λ k. absurd (false≢true (sym (never_queued (relay_seen s (relay_standing_of j m (source_in x)) from x))
      ∙ ap is_queued (sym (fate_of_relay_reception s (relay_standing_of j m (source_in x)) from x)) ∙ k)))
  did j m (from_six x) of = queued_by (relay_entry s j m (from_six x)).step.fate (relay_entry s j m (from_six x)) Of (λ k. given_has Of x (of x refl))
  did j m ticked of = queued_by (relay_entry s j m ticked).step.fate (relay_entry s j m ticked) Of (λ k. tt)
  did j m (given x) of = tt

  each : (es : List Entry) → ((q : Entry) → Contains es q → Contains all q) → IsRelayJournal s es → AllByRecursion Queues es
  each [] among is = tt
  each (e ∷ es) among is = (
    subst Queues (sym is.0.is) (did es e.moment e.input (λ x came. (e, among e (0, omega arith, refl), came))),
    each es (λ q c. among q (suc c.0, (let within = c.1 in omega (arith, within)), c.2)) is.1,
  )

  mentioned : (p : Ip6) (es : List Entry) → AllByRecursion Queues es
      → AllByRecursion (λ (m : Mention). is_about p m ≡ true → IfSome m.bearing.queues Of) (map relay_mention es)
  mentioned p [] a = tt
  mentioned p (e ∷ es) a = ((λ _. a.0), mentioned p es a.1)

  waiting_came : IsRelayJournal s all → (m : ℕ) (p : Ip6) → AllByRecursion Of (known (relay_mentions all) m p).waiting
  unfolding relay_mentions
  waiting_came is m p = kept (λ x. AllByRecursion Of x.waiting) (λ e. IfSome e.bearing.queues Of) (waiting_is_kept Of) p
      (map relay_mention all) (mentioned p all (each all (λ q c. c) is)) m

  ready : IsRelayJournal s all → (m : ℕ) (p : Option Ip6) → AllByRecursion Of (relay_known_in (relay_standing_of all m p)).waiting
  unfolding relay_standing_at
  ready is m p = waiting_came is m (unwrap_or p unspecified)

-- WHAT IS SENT

module _ (s : RelaySettings) (es : List Entry) (input : Input) where
  abbrev P : Send → Type 0
  P = IsRelayPart s es input

  let_go : (to : Ep) (xs : List (List ℕ)) → AllByRecursion (CameIn es) xs → AllByRecursion P (releases to xs)
  let_go to [] came = tt
  let_go to (x ∷ xs) came = (waited to x came.0 refl, let_go to xs came.1)

  by_reception : (a : RelayStanding) (x : List ℕ) (v : Value) (f : Fate) → AllByRecursion (CameIn es) (relay_known_in a).waiting
      → AllByRecursion P (relay_reception_step a x v f).sends
  by_reception a x v fate.FromClientBubble came = let_go (embedded v.packet.src) (relay_known_in a).waiting came
  by_reception a x v fate.FromClient came = let_go (embedded v.packet.src) (relay_known_in a).waiting came
  by_reception a x v fate.Unserved came = let_go (embedded v.packet.src) (relay_known_in a).waiting came
  by_reception a x v _ came = tt

  queued_try : (b : Bool) (p : Ip6) → IsIp6 p → AllByRecursion P (relay_queues b s p).sends
  queued_try true p fits = tt
  queued_try false p fits = (tries p fits refl, tt)

  by_transmission : (a : RelayStanding) (x : List ℕ) (p : Ip6) (f : Fate) → IsIp6 p → input ≡ from_six x
      → AllByRecursion P (relay_transmission_step s a x p f).sends
  by_transmission a x p fate.Sent fits is = (goes_now (embedded p) x is refl, tt)
  by_transmission a x p fate.SentCone fits is = (goes_now (embedded p) x is refl, tt)
  by_transmission a x p fate.Queued fits is = queued_try (is_barred a.moment (relay_known_in a)) p fits
  by_transmission a x p _ fits is = tt

  by_tick : (m : ℕ) (due : Option Listing) → IfSome (relay_peer_of_due due) IsIp6 → AllByRecursion P (relay_tick_step s m due).sends
  by_tick m None fits = tt
  by_tick m (Some l) fits = by (is_spent m l.peer) where
    by : (b : Bool) → AllByRecursion P (relay_tries_peer b s l).sends
    by true = tt
    by false = (tries l.who fits refl, tt)

of_entry : (s : RelaySettings) (j : List Entry) (m : ℕ) (i : Input) → IsRelayJournal s j → IsMadeInput i → AreMadeInputs j
    → AllByRecursion (IsRelayPart s j i) (relay_entry s j m i).step.sends
unfolding relay_in relay_six relay_tick relay_reception relay_transmission
of_entry s j m (arrived from x) is made all =
    let a = relay_standing_of j m (source_in x) in
    by_reception s j (arrived from x) a x (value_in x) (relay_reception_row (relay_seen s a from x)) (ready s j is m (source_in x))
of_entry s j m (from_six x) is made all =
    let a = relay_standing_of j m (destination_in x) in
    by_transmission s j (from_six x) a x (fields_in x).dst (relay_transmission_row (relay_given s a x)) (destination_made x made) refl
of_entry s j m ticked is made all = by_tick s j ticked m (due_by m (relay_first_peer j m)) (due_is s j m is all)
of_entry s j m (given x) is made all = tt

-- each send of an entry of a relay's journal
pub each_relay_part : (s : RelaySettings) (j : List Entry) (e : Entry) → IsRelayJournal s (e ∷ j) → IsMadeInput e.input → AreMadeInputs j
    → AllByRecursion (IsRelayPart s j e.input) e.step.sends
each_relay_part s j e is made all =
    subst (λ (z : Entry). AllByRecursion (IsRelayPart s j e.input) z.step.sends) (sym is.0.is) (of_entry s j e.moment e.input is.1 made all)
