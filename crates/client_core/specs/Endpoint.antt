-- A client as an endpoint of a link: when something is due of it, and how much.
use Rattle.std.specs.Prelude.{◌≡◌, ◌<◌, ◌+◌, ℕ, if◌then◌else◌, Option, option_map}
use Rattle.td_base.specs.declared.millis.Millis.{Millis}
use Rattle.teredo_node.specs.declared.fate.Fate.TheVariants.{Idle}
use Rattle.teredo_node.specs.Step.{Step, just}
use Rattle.teredo_node.specs.Journal.{Journal}
use Rattle.peer_list.specs.Overdue.{overdue_in, IsSooner, IsKeptDue}
use Rattle.qualify.specs.Solicitations.{is_due}
use Rattle.client_core.specs.declared.client.Client.{Client}
use Rattle.client_core.specs.Client.{settings_of, ClientStandsFor}
use Rattle.client_rules.specs.Journals.{client_due}

-- for each journal that it stands for, this is when something is due
abbrev pub IsClientDue : Client → ℕ → Option Millis → Type 0
IsClientDue c n due = (j : Journal) → ClientStandsFor c j → option_map (λ (m : Millis). m.0) due ≡ client_due (settings_of c) j n

-- what makes a client say that something may be due before m: the phase or the refresh, or a peer that it keeps
pub data MayBeDue (c : Client) (m : ℕ) : Type 0 where
  phase_may : IsSooner m c.qualifier.now.due → MayBeDue c m
  peer_may : IsKeptDue c.peers m → MayBeDue c m

-- *due*: an endpoint has so many things due at a moment; a tick does the first of them, and puts it off past that
-- moment or is done with it.
-- *owing*: how much is due of a client at a moment: the phase or the refresh, and packets that wait for peers that are
-- due.
-- how much is due at a moment: the phase or the refresh, and packets that wait for peers whose next try is due
abbrev pub owing : Client → ℕ → ℕ
owing c n = (if is_due n c.qualifier.now.due then 1 else 0) + overdue_in c.peers n

-- of the peers: where nothing was due nothing was done; else less is due, and something was done
pub record PutsOff (old new : Client) (n : ℕ) (step : Step) : Type 0 where
  pub idle : overdue_in old.peers n ≡ 0 → (step ≡ just Idle) × (new ≡ old)
  pub less : 0 < overdue_in old.peers n → (overdue_in new.peers n < overdue_in old.peers n) × (step.fate ≡ Idle → ⊥)
  pub qualifier : new.qualifier ≡ old.qualifier
