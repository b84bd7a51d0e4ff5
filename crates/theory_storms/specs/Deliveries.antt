-- No storm: deliveries of entries that weren't delivered before come to an end.
use Rattle.std.specs.Prelude.{◌≡◌, ◌≤◌, ◌<◌, ℕ, true, false, List, [], ◌∷◌, ◌++◌, length, Some}
use Rattle.std.specs.List.{AllByRecursion}
use Rattle.events.specs.declared.event.Event.TheVariants as event
use Rattle.topology.specs.Rows.{TopologyState}
use Rattle.topology.specs.Rules.{IsTopology}
use Rattle.history.specs.Full.{Full}
use Rattle.legal.specs.Lab.{Lab}
use Rattle.legal.specs.Past.{was_delivered, has_more}
use Rattle.legal.specs.Legal.{Grown}
use Rattle.weights.specs.Burden.{burden, burden_most}

-- DELIVERIES ALONE

-- *new delivery*: of an entry that no record before delivered.
-- the record delivers an entry that none of those before it did
-- Premise: a delivery of any entry, `delivered`, that no record before delivered, `new`.
pub record DeliversNew (H : List Full) (r : Full) : Type 0 where
  pub number : ℕ
  pub delivered : r.delivered ≡ Some number
  pub new : was_delivered number H ≡ false

-- each of these records after H does; the latest stands first
abbrev pub AreNew : List Full → List Full → Type 0
AreNew H [] = Unit {0}
AreNew H (r ∷ later) = DeliversNew (later ++ H) r × AreNew H later

-- such a delivery takes away more than it brings
abbrev pub DeliveryLightens : TopologyState → List Full → Full → Type 0
DeliveryLightens t H r = DeliversNew H r → burden t (r ∷ H) < burden t H

-- so after H there are only so many, one after the other
abbrev pub DeliveriesEnd : TopologyState → List Full → List Full → Type 0
DeliveriesEnd t H later = AreNew H later → length later ≤ burden_most t H

-- THE EVENT THAT DELIVERS ALL

-- the record is one of a `settle`, which goes on after it
-- Premise: a record of a settle event, which was `asked` for, and has `more` to deliver.
pub record GoesOnSettling (r : Full) : Type 0 where
  pub asked : r.asked ≡ event.Settle
  pub more : has_more r.asked r.act ≡ true

-- a `settle` after H goes on only so often
abbrev pub SettlingEnds : TopologyState → List Full → List Full → Type 0
SettlingEnds t H later = AllByRecursion GoesOnSettling later → length later ≤ burden_most t H

-- WHAT IS PROVED

-- each delivery lightens, in every history of a topology that keeps its rules
abbrev pub EachLightens : Type 0
EachLightens = (lab : Lab) (H : List Full) (r : Full) → IsTopology lab.topology → Grown lab (r ∷ H) → DeliveryLightens lab.topology H r

-- so deliveries end
abbrev pub EachStormEnds : Type 0
EachStormEnds = (lab : Lab) (H later : List Full) → IsTopology lab.topology → Grown lab (later ++ H) → DeliveriesEnd lab.topology H later

-- each record of a `settle` that goes on delivers an entry for the first time
abbrev pub SettleDeliversNew : Type 0
SettleDeliversNew = (lab : Lab) (H : List Full) (r : Full) → Grown lab (r ∷ H) → GoesOnSettling r → DeliversNew H r

-- so it ends
abbrev pub EachSettlingEnds : Type 0
EachSettlingEnds = (lab : Lab) (H later : List Full) → IsTopology lab.topology → Grown lab (later ++ H) → SettlingEnds lab.topology H later
