-- What a qualifier stands for, after one entry more.
use Rattle.qualify.proofs.Words.{Cone, Entry, Ep, Fate, Ip6, IsOfAdvert, IsOfServer, IsOfTick, Journal, KeepsStill, List, None, OffLine, Option, Phase, Qualification, Qualified, QualifierStandsFor, QualifierState, Restricted, Secondary, Settings, Some, Step, Symmetric, Tidings, Turn, TurnsBy, Value, Words, [], advert_lines, advert_row, advert_words, ap, drawn_words, first_line, first_phase, fresh, heard, interval_of, interval_word, is_same_origin, option_map, origin_before, origin_given, origin_in, phase_line, qualification, refl, renews, says_nothing, stands_whole, sym, tidings, tidings_of, turn, turn_of, turned, with_entry, ℕ, ◌∙◌, ◌≡◌}
use Rattle.qualify.proofs.Turned.{turns, turns_at_start}

-- the parts of an equal whole
pub stands_by : (q : QualifierState) (j : Journal) → q.now ≡ qualification q.settings j → QualifierStandsFor q j
stands_by q j e = record {
  phase = ap (λ (x : Qualification). x.phase) e;
  due = ap (λ (x : Qualification). x.due) e;
  sends = ap (λ (x : Qualification). x.sends) e;
  open_nonces = ap (λ (x : Qualification). x.open_nonces) e;
  kept = ap (λ (x : Qualification). x.kept) e;
  address = ap (λ (x : Qualification). x.address) e;
  interval = ap (λ (x : Qualification). x.interval) e;
}

abbrev state : Settings → Qualification → QualifierState
state s q = record { settings = s; now = q }

pub stands_at_start : (s : Settings) (q : Qualification) (start : ℕ) → q ≡ fresh (first_phase s) start → QualifierStandsFor (state s q) (record { start = start; entries = [] })
stands_at_start s q start e = stands_by (state s q) (record { start = start; entries = [] }) (e ∙ sym (turns_at_start s start))

-- one entry more
pub stands_on : (s : Settings) (before after : Qualification) (j : Journal) (e : Entry) → QualifierStandsFor (state s before) j → after ≡ turned s (tidings s e) before
    → QualifierStandsFor (state s after) (with_entry j e)
stands_on s before after j e h is =
    stands_by (state s after) (with_entry j e) (is ∙ ap (turned s (tidings s e)) (stands_whole (state s before) j h) ∙ sym (turns s j e))

-- what an entry tells, part by part
pub tells : (s : Settings) (n : ℕ) (fate : Fate) (words : List ℕ) (origin : Option Ep) (e : Entry)
    → e.moment ≡ n → e.step.fate ≡ fate → e.words ≡ words → origin_given e.input ≡ origin → tidings s e ≡ tidings_of s n fate words origin
tells s n fate words origin e a b c d = λ i. tidings_of s (a i) (b i) (c i) (d i)

pub stands_advert : (s : Settings) (before after : Qualification) (n : ℕ) (v : Value) (fate : Fate) (w : Words) → TurnsBy s n fate (drawn_words (advert_words s fate) w) (origin_in v.lead) before after
    → (j : Journal) (e : Entry) → QualifierStandsFor (state s before) j → IsOfAdvert s n v fate w e → QualifierStandsFor (state s after) (with_entry j e)
stands_advert s before after n v fate w is j e h a =
    stands_on s before after j e h (is ∙ ap (λ (t : Tidings). turned s t before) (sym (tells s n fate (drawn_words (advert_words s fate) w) (origin_in v.lead) e a.moment a.became a.words a.origin)))

pub stands_tick : (s : Settings) (before after : Qualification) (n : ℕ) (step : Step) (w : Words) → ((origin : Option Ep) → TurnsBy s n step.fate (drawn_words step.drawn w) origin before after)
    → (j : Journal) (e : Entry) → QualifierStandsFor (state s before) j → IsOfTick n step w e → QualifierStandsFor (state s after) (with_entry j e)
stands_tick s before after n step w is j e h a =
    let t = tells s n step.fate (drawn_words step.drawn w) (origin_given e.input) e a.moment (ap (λ (x : Step). x.fate) a.did) a.words refl in
    stands_on s before after j e h (is (origin_given e.input) ∙ ap (λ (x : Tidings). turned s x before) (sym t))

pub stands_server : (s : Settings) (before after : Qualification) (n : ℕ)
    → ((r : Settings) (t : Tidings) → t.moment ≡ n → t.turn ≡ renews → t.interval ≡ None → after ≡ turned r t before)
    → (j : Journal) (e : Entry) → QualifierStandsFor (state s before) j → IsOfServer n e → QualifierStandsFor (state s after) (with_entry j e)
stands_server s before after n is j e h a =
    stands_on s before after j e h (is s (tidings s e) a.moment a.renewed (ap (λ (x : Turn). option_map (interval_of s) (interval_word x e.words)) a.renewed))

-- ENTRIES THAT SAY NOTHING

still_in : (s : Settings) (m : ℕ) (drawn flags : Option ℕ) (origin : Option Ep) (phase : Phase) (due : Option ℕ) (sends : ℕ) (nonces : List ℕ) (kept : Option Ep) (address : Option Ip6) (interval : ℕ)
    → turned s (record { moment = m; turn = says_nothing; nonce = drawn; interval = None; flags = flags; origin = origin })
    (record { phase = phase; due = due; sends = sends; open_nonces = nonces; kept = kept; address = address; interval = interval })
    ≡ record { phase = phase; due = due; sends = sends; open_nonces = nonces; kept = kept; address = address; interval = interval }
still_in s m drawn flags origin Cone due sends nonces kept address interval = refl
still_in s m drawn flags origin Restricted due sends nonces kept address interval = refl
still_in s m drawn flags origin Secondary due sends nonces kept address interval = refl
still_in s m drawn flags origin Qualified due sends nonces kept address interval = refl
still_in s m drawn flags origin Symmetric due sends nonces kept address interval = refl
still_in s m drawn flags origin OffLine due sends nonces kept address interval = refl

pub still : (s : Settings) (t : Tidings) (q : Qualification) → t.turn ≡ says_nothing → t.interval ≡ None → turned s t q ≡ q
still s t q a b =
    ap (λ (x : Tidings). turned s x q) (λ i. record { moment = t.moment; turn = a i; nonce = t.nonce; interval = b i; flags = t.flags; origin = t.origin })
    ∙ still_in s t.moment t.nonce t.flags t.origin q.phase q.due q.sends q.open_nonces q.kept q.address q.interval

-- such an entry draws no interval
nothing_drawn : (s : Settings) (t : Turn) (words : List ℕ) → t ≡ says_nothing → option_map (interval_of s) (interval_word t words) ≡ None
nothing_drawn s t words h = ap (λ (x : Turn). option_map (interval_of s) (interval_word x words)) h

pub keeps_still : KeepsStill
keeps_still s j e h = turns s j e ∙ still s (tidings s e) (qualification s j) h (nothing_drawn s (turn_of e) e.words h)

-- ADVERTISEMENTS

-- where an origin is taken the phase decides
pub row_of_taken : (s : Settings) (q : Qualification) (from : Ep) (v : Value) (origin : Ep) → origin_in v.lead ≡ Some origin
    → ((last : Fate) → first_line (advert_lines (heard s q from v)) last ≡ last) → advert_row s q from v ≡ phase_line q.phase (is_same_origin (Some origin) (origin_before q q.phase))
unfolding advert_row
row_of_taken s q from v origin told none =
    none (phase_line q.phase (is_same_origin (origin_in v.lead) (origin_before q q.phase)))
    ∙ ap (λ (o : Option Ep). phase_line q.phase (is_same_origin o (origin_before q q.phase))) told

-- where it is refused this is the fate
pub row_of_refused : (s : Settings) (q : Qualification) (from : Ep) (v : Value) (fate : Fate) → ((last : Fate) → first_line (advert_lines (heard s q from v)) last ≡ fate) → advert_row s q from v ≡ fate
unfolding advert_row
row_of_refused s q from v fate is = is (phase_line q.phase (is_same_origin (origin_in v.lead) (origin_before q q.phase)))
