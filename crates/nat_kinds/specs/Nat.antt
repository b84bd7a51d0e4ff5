-- What contracts see of a NAT, and the histories that it stands for.
use Rattle.std.specs.Prelude.{◌≡◌, ℕ, ◌≤◌, List, Option}
use Rattle.td_base.specs.declared.endpoint.Ep.{Ep}
use Rattle.td_base.specs.declared.millis.Millis.{Millis}
use Rattle.nat_kinds.specs.declared.outgoing.Outward.{Outward}
use Rattle.nat_kinds.specs.declared.settings.NatSettings.{NatSettings}
use Rattle.nat_kinds.specs.declared.way.Way.{Way}
use Rattle.nat_kinds.specs.History.{NatEntry, kept, counting}
use Rattle.nat_kinds.specs.Entering.{admits}
use Rattle.nat_kinds.specs.Places.{Shows}
use Rattle.nat_kinds.specs.Asked.{passes, recalled, Recalls}
use Rattle.nat_kinds.specs.Laws.{IsPast}

-- its settings, the moment of the latest call that may have changed it, the latest outward datagram of each port, and when each was asked last
pub record NatState : Type 0 where
  pub settings : NatSettings
  pub moment : ℕ
  pub places : List (Option Outward)
  pub asked : List (Way × Millis)

-- *stands for*, of a NAT: the history is such a NAT's; from its moment on its table shows what counts, and each mapping
-- lets in whom the history does; only what is recalled is kept.
-- the history is one of such a NAT; from the NAT's moment on its table shows the latest datagram of each port that counts,
-- and each mapping lets in whom the history lets in; and of whom was asked nothing is kept but the latest moments of the
-- last two idle times
pub record NatStandsFor (nat : NatState) (h : List NatEntry) : Type 0 where
  pub past : IsPast nat.settings h nat.moment
  pub ports : (n : ℕ) → nat.moment ≤ n → Shows nat.settings.idle n nat.places (counting nat.settings.idle n h)
  pub lets : (n : ℕ) → nat.moment ≤ n → (src : Ep) (m : Outward)
      → passes nat.settings.kind nat.settings.idle n nat.asked src m
      ≡ admits nat.settings.kind (counting nat.settings.idle n h) src m
  pub recalls : Recalls nat.settings.kind (recalled nat.settings.kind nat.settings.idle nat.moment (kept h)) nat.asked

-- it stands for each history that it stood for
abbrev pub StandsAsBefore : NatState → NatState → Type 0
StandsAsBefore old new = (h : List NatEntry) → NatStandsFor old h → NatStandsFor new h
