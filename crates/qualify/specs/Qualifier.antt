-- What contracts see of a qualifier, and the journals that it stands for.
use Rattle.std.specs.Prelude.{◌≡◌, ◌≤◌, ℕ, Bool, true, false, List, Option, Some}
use Rattle.td_base.specs.declared.endpoint.Ep.{Ep}
use Rattle.indications.specs.Leads.{origin_in}
use Rattle.bubble.specs.Payloads.{Value}
use Rattle.teredo_node.specs.declared.fate.Fate.{Fate}
use Rattle.teredo_node.specs.Step.{Step}
use Rattle.teredo_node.specs.Words.{drawn_words}
use Rattle.teredo_node.specs.Journal.{Words, Entry, Journal}
use Rattle.qualify.specs.declared.limits.TheConstants.{INTERVAL_MIN_MS}
use Rattle.qualify.specs.declared.settings.Settings.{Settings}
use Rattle.qualify.specs.declared.phase.Phase.{Phase}
use Rattle.qualify.specs.declared.phase.Phase.TheVariants.{Symmetric, OffLine}
use Rattle.qualify.specs.Turns.{origin_given, renews, turn_of}
use Rattle.qualify.specs.Qualification.{Qualification, qualification}
use Rattle.qualify.specs.Advertisements.{is_same_origin, origin_before, phase_line, advert_words}
use Rattle.qualify.specs.Laws.{tidings_of, turned}

-- the times between two refreshes are in order, and none is too short
pub record IsSettings (s : Settings) : Type 0 where
  pub least : INTERVAL_MIN_MS ≤ s.low
  pub order : s.low ≤ s.high

-- something is due in all phases but the two that last
abbrev pub has_due : Phase → Bool
has_due Symmetric = false
has_due OffLine = false
has_due _ = true

-- how it is set up, and how far it has come
pub record QualifierState : Type 0 where
  pub settings : Settings
  pub now : Qualification

-- *stands for*, of a qualifier: each part that it keeps is what the journal says.
-- each part is what the journal says
pub record QualifierStandsFor (q : QualifierState) (j : Journal) : Type 0 where
  pub phase : q.now.phase ≡ (qualification q.settings j).phase
  pub due : q.now.due ≡ (qualification q.settings j).due
  pub sends : q.now.sends ≡ (qualification q.settings j).sends
  pub open_nonces : q.now.open_nonces ≡ (qualification q.settings j).open_nonces
  pub kept : q.now.kept ≡ (qualification q.settings j).kept
  pub address : q.now.address ≡ (qualification q.settings j).address
  pub interval : q.now.interval ≡ (qualification q.settings j).interval

-- so the whole is
pub stands_whole : (q : QualifierState) (j : Journal) → QualifierStandsFor q j → q.now ≡ qualification q.settings j
stands_whole q j h = λ i. record {
  phase = h.phase i;
  due = h.due i;
  sends = h.sends i;
  open_nonces = h.open_nonces i;
  kept = h.kept i;
  address = h.address i;
  interval = h.interval i;
}

-- the entry of an advertisement: when, the origin in the datagram, what became of it, the words that were drawn
pub record IsOfAdvert (s : Settings) (n : ℕ) (v : Value) (fate : Fate) (w : Words) (e : Entry) : Type 0 where
  pub moment : e.moment ≡ n
  pub origin : origin_given e.input ≡ origin_in v.lead
  pub became : e.step.fate ≡ fate
  pub words : e.words ≡ drawn_words (advert_words s fate) w

-- the entry of a tick: when, what was done, the words that were drawn
pub record IsOfTick (n : ℕ) (step : Step) (w : Words) (e : Entry) : Type 0 where
  pub moment : e.moment ≡ n
  pub did : e.step ≡ step
  pub words : e.words ≡ drawn_words step.drawn w

-- the entry of a bubble that came through the server
pub record IsOfServer (n : ℕ) (e : Entry) : Type 0 where
  pub moment : e.moment ≡ n
  pub renewed : turn_of e ≡ renews

-- after one entry more: when, what became of the input, the words that were drawn, and the origin in it
abbrev pub TurnsBy : Settings → ℕ → Fate → List ℕ → Option Ep → Qualification → Qualification → Type 0
TurnsBy s n fate words origin before after = after ≡ turned s (tidings_of s n fate words origin) before

-- what an advertisement that is taken makes of a client: the phase's line, and one entry more
pub record AnswersBy (s : Settings) (n : ℕ) (origin : Ep) (w : Words) (before : Qualification) (fate : Fate) (after : Qualification) : Type 0 where
  pub line : fate ≡ phase_line before.phase (is_same_origin (Some origin) (origin_before before before.phase))
  pub turns : TurnsBy s n fate (drawn_words (advert_words s fate) w) (Some origin) before after

-- what a tick makes of a client: it does this, and that is one entry more
pub record TicksBy (s : Settings) (n : ℕ) (w : Words) (does : Step) (before : Qualification) (step : Step) (after : Qualification) : Type 0 where
  pub is : step ≡ does
  pub turns : (origin : Option Ep) → TurnsBy s n step.fate (drawn_words step.drawn w) origin before after
