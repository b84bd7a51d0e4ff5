-- A relay as an endpoint of a link: when something is due of it, and how much.
use Rattle.std.specs.Prelude.{◌≡◌, ◌<◌, ℕ, List, Option, option_map}
use Rattle.td_base.specs.declared.millis.Millis.{Millis}
use Rattle.teredo_node.specs.declared.fate.Fate.TheVariants.{Idle}
use Rattle.teredo_node.specs.Step.{Step}
use Rattle.teredo_node.specs.Journal.{Entry}
use Rattle.peer_list.specs.Overdue.{overdue_in}
use Rattle.relay_core.specs.declared.relay.Relay.{Relay}
use Rattle.relay_core.specs.Relay.{RelayStandsFor}
use Rattle.relay_rules.specs.Journals.{relay_due}

-- for each journal that it stands for, this is when something is due
abbrev pub IsRelayDue : Relay → ℕ → Option Millis → Type 0
IsRelayDue r n due = (j : List Entry) → RelayStandsFor r j → option_map (λ (m : Millis). m.0) due ≡ relay_due j n

-- *owing*, of a relay: packets that wait for peers that are due at a moment.
-- how much is due at a moment: packets that wait for peers whose next try is due
abbrev pub relay_owing : Relay → ℕ → ℕ
relay_owing r n = overdue_in r.peers n

-- what was due was done: less is due after it
pub record DoesDue (old new : Relay) (n : ℕ) (step : Step) : Type 0 where
  pub less : relay_owing new n < relay_owing old n
  pub busy : step.fate ≡ Idle → ⊥
