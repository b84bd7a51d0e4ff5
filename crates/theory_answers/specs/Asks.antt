-- A question of a client: what a tick with the fate of a solicitation sends is the question of the phase in which the client is
-- then, and its nonce is open (RFC 4380, sections 5.2.1 and 5.2.5).
use Rattle.std.specs.Prelude.{◌≡◌, ℕ, Bool, true, false, [], ◌∷◌, Some}
use Rattle.teredo_node.specs.declared.fate.Fate.{Fate}
use Rattle.teredo_node.specs.declared.fate.Fate.TheVariants as fate
use Rattle.teredo_node.specs.Words.{nonce_from}
use Rattle.teredo_node.specs.Sends.{send}
use Rattle.teredo_node.specs.Journal.{ticked, Entry, Journal, Words, with_entry}
use Rattle.qualify.specs.declared.settings.Settings.{Settings}
use Rattle.qualify.specs.declared.phase.Phase.{Phase}
use Rattle.qualify.specs.declared.phase.Phase.TheVariants.{Cone, Restricted, Secondary, Qualified, Symmetric, OffLine}
use Rattle.qualify.specs.Qualification.{Qualification, qualification}
use Rattle.qualify.specs.Solicitations.{server_asked, solicitation}
use Rattle.qualify.specs.Advertisements.{is_one_of}
use Rattle.client_rules.specs.Sendings.{asks_as_cone}
use Rattle.client_rules.specs.Journals.{client_entry}

-- the fate of a tick that asks the server
abbrev pub is_question : Fate → Bool
is_question fate.RsCone = true
is_question fate.RsRestricted = true
is_question fate.RsSecondary = true
is_question fate.Refresh = true
is_question _ = false

-- what a phase asks by; the last two ask nothing
abbrev pub question_in : Phase → Fate
question_in Cone = fate.RsCone
question_in Restricted = fate.RsRestricted
question_in Secondary = fate.RsSecondary
question_in Qualified = fate.Refresh
question_in Symmetric = fate.Idle
question_in OffLine = fate.Idle

-- *open question*: what a tick of a client sends to its server is what the phase after it asks, with a nonce that is
-- open then.
-- the entry sends the question of the phase after it, with this nonce, which is open then
pub record IsOpenQuestion (s : Settings) (after : Qualification) (e : Entry) (nonce : ℕ) : Type 0 where
  -- | See `questions_are_open`.
  pub sends : e.step.sends ≡ send (server_asked s after.phase) (solicitation s (asks_as_cone after after.phase) nonce) ∷ []
  -- | See `questions_are_open`.
  pub open_nonce : is_one_of after.open_nonces (Some nonce) ≡ true
  -- | See `questions_are_open`.
  pub of_phase : e.step.fate ≡ question_in after.phase

-- so is each tick that asks
abbrev pub EachQuestionIsOpen : Type 0
EachQuestionIsOpen = (s : Settings) (j : Journal) (m : ℕ) (w : Words) → is_question (client_entry s j m ticked w).step.fate ≡ true
    → IsOpenQuestion s (qualification s (with_entry j (client_entry s j m ticked w))) (client_entry s j m ticked w) (nonce_from w)
