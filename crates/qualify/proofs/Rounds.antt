-- What a tick makes of a phase, or of an address.
use Rattle.qualify.proofs.Words.{Bool, Cone, Ep, Fate, Ip6, List, None, OffLine, Option, Phase, Qualification, Qualified, Restricted, Round, SOLICITATIONS_MAX, SOLICITATION_GAP_MS, Secondary, Settings, Some, State, Step, TicksBy, TurnsBy, Upkeep, Words, [], ap, arith, asks_so, cond, drawn_words, due_step, false, has_cone, interval_of, just, keeps_up, lasts, length, nat_lt, nonce_from, nonces_of, option_to_list, own_address, qualification_of, refl, solicits, solicits_by, subst, sym, true, ℕ, ◌+◌, ◌∙◌, ◌∷◌, ◌≡◌}
use Rattle.teredo_node.specs.declared.fate.Fate.TheVariants as fate
use Rattle.qualify.specs.declared.state.State.TheVariants as states

-- PARTS OF A PHASE

asked_so : (phase : Phase) (kept : Option Ep) (r : Round) (m drawn : ℕ) (before : List ℕ) → r.due.0 ≡ m → nonces_of r.nonces ≡ drawn ∷ before
    → asks_so phase r kept ≡ record { phase = phase; due = Some m; sends = length before + 1; open_nonces = drawn ∷ before; kept = kept; address = None; interval = 0 }
asked_so phase kept r m drawn before due nonces =
    let len : length (nonces_of r.nonces) ≡ length before + 1 = ap length nonces ∙ omega arith in
    λ i. record { phase = phase; due = Some (due i); sends = len i; open_nonces = nonces i; kept = kept; address = None; interval = 0 }

kept_up : (a : Upkeep) (m drawn interval : ℕ) (address : Ip6) → a.due.0 ≡ m → a.nonce ≡ Some drawn → a.interval ≡ interval → a.address ≡ address
    → keeps_up a ≡ record { phase = Qualified; due = Some m; sends = 0; open_nonces = drawn ∷ []; kept = None; address = Some address; interval = interval }
kept_up a m drawn interval address due is long same =
    let nonces : option_to_list a.nonce ≡ drawn ∷ [] = ap option_to_list is in
    λ i. record { phase = Qualified; due = Some (due i); sends = 0; open_nonces = nonces i; kept = None; address = Some (same i); interval = long i }

-- TICKS

-- a step that is what is done, and what one entry more makes of it
ticks_by : (s : Settings) (n : ℕ) (w : Words) (before after : Qualification) (does done step : Step) → step ≡ done → does ≡ done
    → ((origin : Option Ep) → TurnsBy s n done.fate (drawn_words done.drawn w) origin before after) → TicksBy s n w does before step after
ticks_by s n w before after does done step is so turns = record {
  is = is ∙ sym so;
  turns = λ origin. subst (λ (x : Step). TurnsBy s n x.fate (drawn_words x.drawn w) origin before after) (sym is) (turns origin);
}

-- one solicitation more, at a moment, with a nonce of these words
pub record AsksOnce (n : ℕ) (w : Words) (before : List ℕ) (after : Round) : Type 0 where
  pub drawn : ℕ
  pub is : drawn ≡ nonce_from w
  pub due : after.due.0 ≡ n + SOLICITATION_GAP_MS
  pub nonces : nonces_of after.nonces ≡ drawn ∷ before

-- which of two steps is due
due_of_two : (s : Settings) (q : Qualification) (w : Words) (b : Bool) (here there : Fate) (c : Bool) → b ≡ c → solicits_by s q w (cond b here there) ≡ solicits_by s q w (cond c here there)
due_of_two s q w b here there c h = ap (λ (x : Bool). solicits_by s q w (cond x here there)) h

pub cone_asks : (s : Settings) {n : ℕ} {w : Words} (r : Round) {after : Round} (step : Step) → nat_lt (length (nonces_of r.nonces)) SOLICITATIONS_MAX ≡ true
    → step ≡ solicits s fate.RsCone Cone true 2 w → AsksOnce n w (nonces_of r.nonces) after
    → TicksBy s n w (due_step s (asks_so Cone r None) w) (asks_so Cone r None) step (asks_so Cone after None)
unfolding due_step
cone_asks s {n} {w} r {after} step again is a =
    ticks_by s n w (asks_so Cone r None) (asks_so Cone after None) _ (solicits s fate.RsCone Cone true 2 w) step is
    (due_of_two s (asks_so Cone r None) w (nat_lt (length (nonces_of r.nonces)) SOLICITATIONS_MAX) fate.RsCone fate.RsRestricted true again)
    (λ origin. asked_so Cone None after (n + SOLICITATION_GAP_MS) (nonce_from w) (nonces_of r.nonces) a.due (a.nonces ∙ ap (λ (x : ℕ). x ∷ nonces_of r.nonces) a.is))

pub cone_is_over : (s : Settings) {n : ℕ} {w : Words} (r : Round) {after : Round} (step : Step) → nat_lt (length (nonces_of r.nonces)) SOLICITATIONS_MAX ≡ false
    → step ≡ solicits s fate.RsRestricted Restricted false 2 w → AsksOnce n w [] after
    → TicksBy s n w (due_step s (asks_so Cone r None) w) (asks_so Cone r None) step (asks_so Restricted after None)
unfolding due_step
cone_is_over s {n} {w} r {after} step over is a =
    ticks_by s n w (asks_so Cone r None) (asks_so Restricted after None) _ (solicits s fate.RsRestricted Restricted false 2 w) step is
    (due_of_two s (asks_so Cone r None) w (nat_lt (length (nonces_of r.nonces)) SOLICITATIONS_MAX) fate.RsCone fate.RsRestricted false over)
    (λ origin. asked_so Restricted None after (n + SOLICITATION_GAP_MS) (nonce_from w) [] a.due (a.nonces ∙ ap (λ (x : ℕ). x ∷ []) a.is))

pub restricted_asks : (s : Settings) {n : ℕ} {w : Words} (r : Round) {after : Round} (step : Step) → nat_lt (length (nonces_of r.nonces)) SOLICITATIONS_MAX ≡ true
    → step ≡ solicits s fate.RsRestricted Restricted false 2 w → AsksOnce n w (nonces_of r.nonces) after
    → TicksBy s n w (due_step s (asks_so Restricted r None) w) (asks_so Restricted r None) step (asks_so Restricted after None)
unfolding due_step
restricted_asks s {n} {w} r {after} step again is a =
    ticks_by s n w (asks_so Restricted r None) (asks_so Restricted after None) _ (solicits s fate.RsRestricted Restricted false 2 w) step is
    (due_of_two s (asks_so Restricted r None) w (nat_lt (length (nonces_of r.nonces)) SOLICITATIONS_MAX) fate.RsRestricted fate.OffLine true again)
    (λ origin. asked_so Restricted None after (n + SOLICITATION_GAP_MS) (nonce_from w) (nonces_of r.nonces) a.due (a.nonces ∙ ap (λ (x : ℕ). x ∷ nonces_of r.nonces) a.is))

pub restricted_is_over : (s : Settings) (n : ℕ) (w : Words) (r : Round) (step : Step) → nat_lt (length (nonces_of r.nonces)) SOLICITATIONS_MAX ≡ false → step ≡ just fate.OffLine
    → TicksBy s n w (due_step s (asks_so Restricted r None) w) (asks_so Restricted r None) step (lasts OffLine)
unfolding due_step
restricted_is_over s n w r step over is =
    ticks_by s n w (asks_so Restricted r None) (lasts OffLine) _ (just fate.OffLine) step is
    (due_of_two s (asks_so Restricted r None) w (nat_lt (length (nonces_of r.nonces)) SOLICITATIONS_MAX) fate.RsRestricted fate.OffLine false over)
    (λ origin. refl)

pub secondary_asks : (s : Settings) {n : ℕ} {w : Words} (r : Round) {after : Round} (kept : Ep) (step : Step) → nat_lt (length (nonces_of r.nonces)) SOLICITATIONS_MAX ≡ true
    → step ≡ solicits s fate.RsSecondary Secondary false 2 w → AsksOnce n w (nonces_of r.nonces) after
    → TicksBy s n w (due_step s (asks_so Secondary r (Some kept)) w) (asks_so Secondary r (Some kept)) step (asks_so Secondary after (Some kept))
unfolding due_step
secondary_asks s {n} {w} r {after} kept step again is a =
    ticks_by s n w (asks_so Secondary r (Some kept)) (asks_so Secondary after (Some kept)) _ (solicits s fate.RsSecondary Secondary false 2 w) step is
    (due_of_two s (asks_so Secondary r (Some kept)) w (nat_lt (length (nonces_of r.nonces)) SOLICITATIONS_MAX) fate.RsSecondary fate.OffLine true again)
    (λ origin. asked_so Secondary (Some kept) after (n + SOLICITATION_GAP_MS) (nonce_from w) (nonces_of r.nonces) a.due (a.nonces ∙ ap (λ (x : ℕ). x ∷ nonces_of r.nonces) a.is))

pub secondary_is_over : (s : Settings) (n : ℕ) (w : Words) (r : Round) (kept : Ep) (step : Step) → nat_lt (length (nonces_of r.nonces)) SOLICITATIONS_MAX ≡ false → step ≡ just fate.OffLine
    → TicksBy s n w (due_step s (asks_so Secondary r (Some kept)) w) (asks_so Secondary r (Some kept)) step (lasts OffLine)
unfolding due_step
secondary_is_over s n w r kept step over is =
    ticks_by s n w (asks_so Secondary r (Some kept)) (lasts OffLine) _ (just fate.OffLine) step is
    (due_of_two s (asks_so Secondary r (Some kept)) w (nat_lt (length (nonces_of r.nonces)) SOLICITATIONS_MAX) fate.RsSecondary fate.OffLine false over)
    (λ origin. refl)

pub refreshes_so : (s : Settings) (n : ℕ) (w : Words) (a after : Upkeep) (step : Step) → step ≡ solicits s fate.Refresh Qualified (has_cone a.address) 3 w
    → after.due.0 ≡ n + interval_of s (w 2) → after.nonce ≡ Some (nonce_from w) → after.interval ≡ interval_of s (w 2) → after.address ≡ a.address
    → TicksBy s n w (due_step s (keeps_up a) w) (keeps_up a) step (keeps_up after)
unfolding due_step own_address
refreshes_so s n w a after step is due drawn long same =
    ticks_by s n w (keeps_up a) (keeps_up after) _ (solicits s fate.Refresh Qualified (has_cone a.address) 3 w) step is refl
    (λ origin. kept_up after (n + interval_of s (w 2)) (nonce_from w) (interval_of s (w 2)) a.address due drawn long same)

-- the same of a state that is known to be off line
pub over_by : (s : Settings) (n : ℕ) (w : Words) (does : Step) (before : Qualification) (step : Step) (x : State) → x ≡ states.OffLine → TicksBy s n w does before step (lasts OffLine) → TicksBy s n w does before step (qualification_of x)
over_by s n w does before step x is ticks = subst (λ (y : State). TicksBy s n w does before step (qualification_of y)) (sym is) ticks
