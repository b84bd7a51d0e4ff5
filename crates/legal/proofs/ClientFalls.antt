-- What the due moments of a client weigh: less after a tick of it.
use Rattle.legal.proofs.Words.{Bool, Cone, Due, Entry, Ep, Ip6, Journal, List, Listing, None, OffLine, Option, Phase, Qualification, Qualified, Restricted, SOLICITATIONS_MAX, Settings, Some, Step, Symmetric, Words, [], address_in, after, ap, arith, asked_in, asks, bearing_of, client_due, client_tick, cond, drawn_words, due_at, due_fate, due_in, due_of, due_step, entry, false, false≢true, first_peer, first_waits, in_phase, interval_of, is_changed, is_due, is_none, is_some, is_spent, is_teredo, keeps_still, kept_origin, last_interval, leb-false, leb-true, length, mention, mentions, nat_le, nat_lt, next_due, next_mentions, nonce_of_words, nonces_in, nothing, option_map, option_to_list, own_address, peer_due, peers_due, phase_began, phase_of, qualification, qualify_turns, refl, same_Some, says_nothing, sending, solicits_by, sooner, subst, sym, ticked, tidings, tries, tries_peer, true, try_fate, try_sends, try_words, turn, turn_of, turned, unwrap_or, with_entry, ℕ, ◌++◌, ◌+◌, ◌<◌, ◌∙◌, ◌∷◌, ◌≡◌, ◌≤◌}
use Rattle.teredo_node.specs.declared.fate.Fate.TheVariants as fate
use Rattle.qualify.specs.declared.phase.Phase.TheVariants.{Secondary}
use Rattle.client_rules.specs.Journals.{ticks}
use Rattle.legal.proofs.Weights.{weights, weights_append, weights_fade, IsLater, lighter_after}
use Rattle.legal.proofs.PeersFall.{peer_weight, peers_weight, peers_weigh, peers_fade, NoneDue, fall_lost, peers_still, fall_turn, put_off, let_go, tried_later}

-- as `due_moments` gives them
abbrev pub moments : Settings → Journal → ℕ → List ℕ
moments s j m = option_to_list (qualification s j).due ++ peers_due (mentions j.entries) m

-- of the phase or the refresh
abbrev due_weight : (end m : ℕ) → Settings → Journal → ℕ
due_weight end m s j = weights end m (option_to_list (qualification s j).due)

parts : (s : Settings) (j : Journal) (end m : ℕ) → weights end m (moments s j m) ≡ due_weight end m s j + peers_weight end m (mentions j.entries)
parts s j end m =
    weights_append end m (option_to_list (qualification s j).due) (peers_due (mentions j.entries) m)
    ∙ ap (λ k. due_weight end m s j + k) (peers_weigh end m (mentions j.entries))

pub client_fades : (s : Settings) (j : Journal) (m n end : ℕ) → m ≤ n → weights end n (moments s j n) ≤ weights end m (moments s j m)
client_fades s j m n end l =
    let due : due_weight end n s j ≤ due_weight end m s j = weights_fade end m n (option_to_list (qualification s j).due) l in
    let peers : peers_weight end n (mentions j.entries) ≤ peers_weight end m (mentions j.entries) = peers_fade end m n (mentions j.entries) l in
    omega (arith, due, peers, parts s j end n, parts s j end m)

-- THE PHASE OR THE REFRESH

-- a step at n that changes no address, and after which the phase or the refresh is due later
abbrev IsAsked : Settings → ℕ → Words → Qualification → Step → Type 0
IsAsked s n w q step = (is_changed step.fate ≡ false) × IsLater n (turned s (tidings s (entry n ticked None None w step)) q).due

of_phase : (s : Settings) (n : ℕ) (w : Words) (phase : Phase) (began : ℕ) (es : List Entry) (sends : ℕ) (nonces : List ℕ) (kept : Option Ep) (address : Option Ip6) (interval : ℕ) → 1 ≤ s.low
    → is_due n (due_in s phase began es) ≡ true
    → let q : Qualification = record { phase = phase; due = due_in s phase began es; sends = sends; open_nonces = nonces; kept = kept; address = address; interval = interval } in IsAsked s n w q (solicits_by s q w (due_fate phase sends))
unfolding interval_of
of_phase s n w Cone began es sends nonces kept address interval low due = by (nat_lt sends SOLICITATIONS_MAX) where
  q : Qualification
  q = record { phase = Cone; due = due_in s Cone began es; sends = sends; open_nonces = nonces; kept = kept; address = address; interval = interval }

  by : (b : Bool) → IsAsked s n w q (solicits_by s q w (cond b fate.RsCone fate.RsRestricted))
  by true = (refl, omega arith)
  by false = (refl, omega arith)
of_phase s n w Restricted began es sends nonces kept address interval low due = by (nat_lt sends SOLICITATIONS_MAX) where
  q : Qualification
  q = record { phase = Restricted; due = due_in s Restricted began es; sends = sends; open_nonces = nonces; kept = kept; address = address; interval = interval }

  by : (b : Bool) → IsAsked s n w q (solicits_by s q w (cond b fate.RsRestricted fate.OffLine))
  by true = (refl, omega arith)
  by false = (refl, tt)
of_phase s n w Secondary began es sends nonces kept address interval low due = by (nat_lt sends SOLICITATIONS_MAX) where
  q : Qualification
  q = record { phase = Secondary; due = due_in s Secondary began es; sends = sends; open_nonces = nonces; kept = kept; address = address; interval = interval }

  by : (b : Bool) → IsAsked s n w q (solicits_by s q w (cond b fate.RsSecondary fate.OffLine))
  by true = (refl, omega arith)
  by false = (refl, tt)
of_phase s n w Qualified began es sends nonces kept address interval low due = (refl, omega arith)
of_phase s n w Symmetric began es sends nonces kept address interval low due = absurd (false≢true due)
of_phase s n w OffLine began es sends nonces kept address interval low due = absurd (false≢true due)

is_asked : (s : Settings) (j : Journal) (n : ℕ) (w : Words) → 1 ≤ s.low → is_due n (qualification s j).due ≡ true → IsAsked s n w (qualification s j) (due_step s (qualification s j) w)
unfolding qualification due_step
is_asked s j n w low due =
    let phase = phase_of s j.entries in
    let es = in_phase s j.entries in
    of_phase s n w phase (phase_began s j.start j.entries) es (length (asked_in phase es)) (nonces_in phase es) (kept_origin es) (address_in s es) (last_interval s es) low due

-- what was due, and is due later, weighs less
due_less : (end m n : ℕ) (old new : Option ℕ) → m ≤ n → n ≤ end → is_due n old ≡ true → IsLater n new → weights end n (option_to_list new) < weights end m (option_to_list old)
due_less end m n None new l within due later = absurd (false≢true due)
due_less end m n (Some d) new l within due later = lighter_after end m n d new (leb-true d n due) l within later

-- A FURTHER ENTRY

next_weight : (end n : ℕ) (j : Journal) (e : Entry) → is_changed e.step.fate ≡ false → peers_weight end n (mentions (e ∷ j.entries)) ≡ peers_weight end n (mention e ∷ mentions j.entries)
next_weight end n j e keeps = ap (peers_weight end n) (next_mentions e j.entries ∙ ap (λ b. cond b [] (mention e ∷ mentions j.entries)) keeps)

asked : (s : Settings) (j : Journal) (m n end : ℕ) (w : Words) → 1 ≤ s.low → m ≤ n → n ≤ end → is_due n (qualification s j).due ≡ true
    → weights end n (moments s (with_entry j (ticks s j n w asks)) n) < weights end m (moments s j m)
asked s j m n end w low l within due =
    let q : Qualification = qualification s j in
    let e : Entry = ticks s j n w asks in
    let is : IsAsked s n w q (due_step s q w) = is_asked s j n w low due in
    let later : IsLater n (qualification s (with_entry j e)).due = subst (λ (x : Qualification). IsLater n x.due) (sym (qualify_turns s j e)) is.1 in
    let less : due_weight end n s (with_entry j e) < due_weight end m s j = due_less end m n q.due (qualification s (with_entry j e)).due l within due later in
    let same : peers_weight end n (mentions (e ∷ j.entries)) ≡ peers_weight end n (mention e ∷ mentions j.entries) = next_weight end n j e is.0 in
    let still : peers_weight end n (mention e ∷ mentions j.entries) ≤ peers_weight end n (mentions j.entries) = peers_still end n (bearing_of e.step.fate e) (mentions j.entries) in
    let fade : peers_weight end n (mentions j.entries) ≤ peers_weight end m (mentions j.entries) = peers_fade end m n (mentions j.entries) l in
    omega (arith, less, same, still, fade, parts s j end m, parts s (with_entry j e) end n)

-- an entry that says nothing of the phase, and changes no address, leaves what the phase or the refresh weighs
same_due : (s : Settings) (j : Journal) (m n end : ℕ) (e : Entry) → m ≤ n → turn_of e ≡ says_nothing → due_weight end n s (with_entry j e) ≤ due_weight end m s j
same_due s j m n end e l says =
    let is : due_weight end n s (with_entry j e) ≡ due_weight end n s j = ap (λ (x : Qualification). weights end n (option_to_list x.due)) (keeps_still s j e says) in
    let fade : due_weight end n s j ≤ due_weight end m s j = weights_fade end m n (option_to_list (qualification s j).due) l in
    omega (arith, is, fade)

-- TRIES

tried_by : (s : Settings) (j : Journal) (m n end : ℕ) (w : Words) (l : Listing) (step : Step) → m ≤ n → first_peer j n ≡ Some l
    → let e : Entry = entry n ticked None (Some l.who) w step in
    is_changed step.fate ≡ false → turn step.fate ≡ says_nothing → peer_weight end n (after (mention e) l.peer) < peer_weight end n l.peer
    → weights end n (moments s (with_entry j e) n) < weights end m (moments s j m)
tried_by s j m n end w l step le first keeps says less =
    let e : Entry = entry n ticked None (Some l.who) w step in
    let due : due_weight end n s (with_entry j e) ≤ due_weight end m s j = same_due s j m n end e le says in
    let same : peers_weight end n (mentions (e ∷ j.entries)) ≡ peers_weight end n (mention e ∷ mentions j.entries) = next_weight end n j e keeps in
    let falls : peers_weight end n (mention e ∷ mentions j.entries) < peers_weight end n (mentions j.entries) = fall_turn end n (bearing_of step.fate e) (mentions j.entries) l first less in
    let fade : peers_weight end n (mentions j.entries) ≤ peers_weight end m (mentions j.entries) = peers_fade end m n (mentions j.entries) le in
    omega (arith, due, same, falls, fade, parts s j end m, parts s (with_entry j e) end n)

tried : (s : Settings) (j : Journal) (m n end : ℕ) (w : Words) (l : Listing) → m ≤ n → n ≤ end → first_peer j n ≡ Some l → due_of l.peer ≤ n
    → weights end n (moments s (with_entry j (ticks s j n w (tries l))) n) < weights end m (moments s j m)
tried s j m n end w l le within first due = by (is_spent n l.peer) where
  waits : is_none l.peer.waiting ≡ false
  waits = (first_waits (mentions j.entries) n l first).waits

  q : Qualification
  q = qualification s j

  step : Bool → Step
  step t = record (sending (try_fate t) (try_sends s (own_address q) l.who w)) { drawn = try_words l.who }

  by_kind : (t : Bool) → weights end n (moments s (with_entry j (entry n ticked None (Some l.who) w (step t))) n) < weights end m (moments s j m)
  by_kind true = tried_by s j m n end w l (step true) le first refl refl (put_off end n l.peer (after (mention (entry n ticked None (Some l.who) w (step true))) l.peer) waits due within (tried_later n (Some l.who) None l.peer))
  by_kind false =
      tried_by s j m n end w l (step false) le first refl refl
      (put_off end n l.peer (after (mention (entry n ticked None (Some l.who) w (step false))) l.peer) waits due within (tried_later n (Some l.who) (nonce_of_words (drawn_words (try_words l.who) w)) l.peer))

  by : (b : Bool) → weights end n (moments s (with_entry j (entry n ticked None (Some l.who) w (tries_peer b s q l w))) n) < weights end m (moments s j m)
  by true =
      let step : Step = tries_peer true s q l w in
      tried_by s j m n end w l step le first refl refl (let_go end n l.peer (after (mention (entry n ticked None (Some l.who) w step)) l.peer) waits due within refl)
  by false = by_kind (is_teredo l.who)

-- NOTHING

-- a peer of a client was due
record WasDue (n : ℕ) (first : Option Listing) : Type 0 where
  l : Listing
  is : first ≡ Some l
  due : due_of l.peer ≤ n

peer_was_due : (n d : ℕ) (o : Option ℕ) (first : Option Listing) → is_due n o ≡ false → sooner o (option_map (λ (l : Listing). due_of l.peer) first) ≡ Some d → d ≤ n → WasDue n first
peer_was_due n d None None none e le = absurd (false≢true (ap is_some e))
peer_was_due n d None (Some l) none e le = record { l = l; is = refl; due = let same : due_of l.peer ≡ d = same_Some (due_of l.peer) d e in omega (arith, same, le) }
peer_was_due n d (Some a) None none e le =
    let same : a ≡ d = same_Some a d e in
    let later : n < a = leb-false a n none in
    absurd (omega (arith, same, later, le))
peer_was_due n d (Some a) (Some l) none e le = by (nat_lt (due_of l.peer) a) e where
  by : (b : Bool) → cond b (Some (due_of l.peer)) (Some a) ≡ Some d → WasDue n (Some l)
  by true k = record { l = l; is = refl; due = let same : due_of l.peer ≡ d = same_Some (due_of l.peer) d k in omega (arith, same, le) }
  by false k =
      let same : a ≡ d = same_Some a d k in
      let later : n < a = leb-false a n none in
      absurd (omega (arith, same, later, le))

idled : (s : Settings) (j : Journal) (m n end d : ℕ) (w : Words) → m ≤ n → n ≤ end → is_due n (qualification s j).due ≡ false → NoneDue (mentions j.entries) n
    → client_due s j m ≡ Some d → d ≤ n → weights end n (moments s (with_entry j (ticks s j n w nothing)) n) < weights end m (moments s j m)
unfolding client_due next_due
idled s j m n end d w l within none nobody due le =
    let e : Entry = ticks s j n w nothing in
    let was : WasDue n (first_peer j m) = peer_was_due n d (qualification s j).due (first_peer j m) none due le in
    let same : peers_weight end n (mentions (e ∷ j.entries)) ≡ peers_weight end n (mention e ∷ mentions j.entries) = next_weight end n j e refl in
    let still : peers_weight end n (mention e ∷ mentions j.entries) ≤ peers_weight end n (mentions j.entries) = peers_still end n (bearing_of fate.Idle e) (mentions j.entries) in
    let lost : peers_weight end n (mentions j.entries) < peers_weight end m (mentions j.entries) = fall_lost end m n (mentions j.entries) was.l l within was.is was.due nobody in
    let phase : due_weight end n s (with_entry j e) ≤ due_weight end m s j = same_due s j m n end e l refl in
    omega (arith, same, still, lost, phase, parts s j end m, parts s (with_entry j e) end n)

-- ANY TICK

pub client_falls : (s : Settings) (j : Journal) (m n end d : ℕ) (w : Words) → 1 ≤ s.low → m ≤ n → n ≤ end → client_due s j m ≡ Some d → d ≤ n
    → weights end n (moments s (with_entry j (client_tick s j n w)) n) < weights end m (moments s j m)
unfolding client_tick due_at
client_falls s j m n end d w low l within due le = by (is_due n (qualification s j).due) refl where
  falls : Due → Type 0
  falls x = weights end n (moments s (with_entry j (ticks s j n w x)) n) < weights end m (moments s j m)

  by_time : (b : Bool) (x : Listing) → first_peer j n ≡ Some x → nat_le (due_of x.peer) n ≡ b → is_due n (qualification s j).due ≡ false → falls (cond b (tries x) nothing)
  by_time true x is e none = tried s j m n end w x l within is (leb-true (due_of x.peer) n e)
  by_time false x is e none =
      idled s j m n end d w l within none (λ y is_too. let same : x ≡ y = ap (λ (o : Option Listing). unwrap_or o x) (sym is ∙ is_too) in subst (λ (z : Listing). n < due_of z.peer) same (leb-false (due_of x.peer) n e)) due le

  by_peer : (o : Option Listing) → first_peer j n ≡ o → is_due n (qualification s j).due ≡ false → falls (peer_due n o)
  by_peer None is none = idled s j m n end d w l within none (λ y is_too. absurd (false≢true (ap is_some (sym is ∙ is_too)))) due le
  by_peer (Some x) is none = by_time (nat_le (due_of x.peer) n) x is refl none

  by : (b : Bool) → is_due n (qualification s j).due ≡ b → falls (cond b asks (peer_due n (first_peer j n)))
  by true e = asked s j m n end w low l within e
  by false e = by_peer (first_peer j n) refl e
