-- What was due where a client's tick has a fate (RFC 4380, sections 5.2.1, 5.2.5 and 5.2.6). No other fate is a tick's.
use Rattle.std.specs.Prelude.{◌≡◌, ◌≤◌, ◌<◌, ◌⊎◌, ℕ, Bool, true, false, Option, Some}
use Rattle.teredo_addr.specs.Teredo.{is_teredo}
use Rattle.teredo_node.specs.declared.fate.Fate.{Fate}
use Rattle.teredo_node.specs.declared.fate.Fate.TheVariants as fate
use Rattle.teredo_node.specs.Journal.{Words}
use Rattle.peer_list.specs.Judged.{is_spent, due_of}
use Rattle.peer_list.specs.Waiting.{Listing}
use Rattle.qualify.specs.declared.settings.Settings.{Settings}
use Rattle.qualify.specs.declared.limits.TheConstants.{SOLICITATIONS_MAX}
use Rattle.qualify.specs.declared.phase.Phase.{Phase}
use Rattle.qualify.specs.declared.phase.Phase.TheVariants.{Cone, Restricted, Secondary, Qualified}
use Rattle.qualify.specs.Qualification.{Qualification}
use Rattle.qualify.specs.Solicitations.{is_due}
use Rattle.client_rules.specs.Ticks.{due_at, tick}

-- the phase or the refresh is due, in this phase
pub record IsAsking (phase : Phase) (n : ℕ) (q : Qualification) : Type 0 where
  pub due : is_due n q.due ≡ true
  pub phase_is : q.phase ≡ phase

-- and has asked less often than it may
pub record AsksAgain (phase : Phase) (n : ℕ) (q : Qualification) : Type 0 where
  pub asking : IsAsking phase n q
  pub few : q.sends < SOLICITATIONS_MAX

-- or that often
pub record IsAtItsEnd (phase : Phase) (n : ℕ) (q : Qualification) : Type 0 where
  pub asking : IsAsking phase n q
  pub all : SOLICITATIONS_MAX ≤ q.sends

-- neither is due, and the peer that is due first is, after four tries in the last 300 s or fewer
pub record IsPeersTurn (spent : Bool) (n : ℕ) (q : Qualification) (first : Option Listing) : Type 0 where
  pub calm : is_due n q.due ≡ false
  pub listing : Listing
  pub is_first : first ≡ Some listing
  pub due : due_of listing.peer ≤ n
  pub spent_is : is_spent n listing.peer ≡ spent

-- it is another client, or a native host
pub record GetsTry (teredo : Bool) (n : ℕ) (q : Qualification) (first : Option Listing) : Type 0 where
  pub turn : IsPeersTurn false n q first
  pub kind : is_teredo turn.listing.who ≡ teredo

-- what has to hold where a tick has this fate
abbrev pub TickedOnlyIf : Fate → ℕ → Qualification → Option Listing → Type 0
TickedOnlyIf fate.RsCone n q first = AsksAgain Cone n q
TickedOnlyIf fate.RsRestricted n q first = IsAtItsEnd Cone n q ⊎ AsksAgain Restricted n q
TickedOnlyIf fate.RsSecondary n q first = AsksAgain Secondary n q
TickedOnlyIf fate.OffLine n q first = IsAtItsEnd Restricted n q ⊎ IsAtItsEnd Secondary n q
TickedOnlyIf fate.Refresh n q first = IsAsking Qualified n q
TickedOnlyIf fate.GiveUp n q first = IsPeersTurn true n q first
TickedOnlyIf fate.Bubbles n q first = GetsTry true n q first
TickedOnlyIf fate.Test n q first = GetsTry false n q first
TickedOnlyIf fate.Idle n q first = Unit {0}
TickedOnlyIf _ n q first = ⊥

-- a tick has a fate only where this is due
abbrev pub TickIsWarranted : Type 0
TickIsWarranted = (s : Settings) (n : ℕ) (q : Qualification) (w : Words) (first : Option Listing)
    → TickedOnlyIf (tick s n q w (due_at n q first)).fate n q first
