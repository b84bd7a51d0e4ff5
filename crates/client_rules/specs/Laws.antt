-- What holds of every client's tables and journals.
use Rattle.std.specs.Prelude.{◌≡◌, ◌≤◌, ℕ, true, if◌then◌else◌, List, [], ◌∷◌, length}
use Rattle.td_base.specs.declared.endpoint.Ep.{Ep}
use Rattle.bubble.specs.Reads.{value_in}
use Rattle.teredo_node.specs.Journal.{Entry, Journal, Words, is_changed}
use Rattle.peer_list.specs.declared.limits.TheConstants.{PEERS_MAX}
use Rattle.peer_list.specs.Listed.{listed}
use Rattle.peer_list.specs.Laws.{IsTried}
use Rattle.qualify.specs.declared.settings.Settings.{Settings}
use Rattle.qualify.specs.Advertisements.{heard}
use Rattle.client_rules.specs.Bearings.{mention, mentions}
use Rattle.client_rules.specs.Standing.{Standing}
use Rattle.client_rules.specs.Reception.{seen, reception_fate, reception}
use Rattle.client_rules.specs.Transmission.{transmission_row, given, transmission}
use Rattle.client_rules.specs.Warrants.{ReceivedOnlyIf, SentOnlyIf}
use Rattle.client_rules.specs.Journals.{last_moment, IsJournal}

-- THE TABLES

-- what is done has the fate of the line
abbrev pub FateOfReception : Type 0
FateOfReception = (s : Settings) (a : Standing) (from : Ep) (x : List ℕ) (w : Words) → (reception s a from x w).fate ≡ reception_fate s a from x

-- so has what is done with a packet of the host
abbrev pub FateOfTransmission : Type 0
FateOfTransmission = (s : Settings) (a : Standing) (x : List ℕ) (w : Words) → (transmission s a x w).fate ≡ transmission_row (given s a x)

-- what was seen of a datagram with a fate, and of a packet of the host
abbrev pub ReceptionIsWarranted : Type 0
ReceptionIsWarranted = (s : Settings) (a : Standing) (from : Ep) (x : List ℕ)
    → ReceivedOnlyIf (reception_fate s a from x) (seen s a from x) (heard s a.qualification from (value_in x))

-- so has a packet of the host
abbrev pub TransmissionIsWarranted : Type 0
TransmissionIsWarranted = (s : Settings) (a : Standing) (x : List ℕ) → SentOnlyIf (transmission_row (given s a x)) (given s a x)

-- MENTIONS

-- one further entry is one further mention, and a change of address ends all
abbrev pub NextMentions : Type 0
NextMentions = (e : Entry) (j : List Entry) → mentions (e ∷ j) ≡ (if is_changed e.step.fate then [] else mention e ∷ mentions j)

-- each try touches its peer
abbrev pub TriesTouch : Type 0
TriesTouch = (e : Entry) → (mention e).bearing.tries ≡ true → (mention e).bearing.touches ≡ true

-- so in a journal spent and barred are what they are without regard to a stay
abbrev pub JournalIsTried : Type 0
JournalIsTried = (s : Settings) (j : Journal) (n : ℕ) → IsJournal s j → last_moment j.start j.entries ≤ n → IsTried (mentions j.entries) n

-- no more than 256 peers are ever listed
abbrev pub JournalHasFew : Type 0
JournalHasFew = (s : Settings) (j : Journal) (n : ℕ) → IsJournal s j → last_moment j.start j.entries ≤ n → length (listed (mentions j.entries) n) ≤ PEERS_MAX
