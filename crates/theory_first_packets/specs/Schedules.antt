-- Schedules after a record: deliveries of what it made and of what they made, each once, and no send of them fails. What they bring.
use Rattle.std.specs.Prelude.{◌≡◌, ◌≤◌, ◌<◌, ◌⊎◌, ℕ, Bool, true, false, List, [], ◌∷◌, ◌++◌, length, Some}
use Rattle.std.specs.List.{list_any}
use Rattle.history.specs.declared.mark.Loss.TheVariants as loss
use Rattle.history.specs.Full.{Made, lost, Full, wire}
use Rattle.legal.specs.Past.{was_delivered}

-- a send that failed by itself
abbrev pub is_fault : Made → Bool
is_fault (lost loss.Fault dst bytes) = true
is_fault _ = false

-- no send of the record failed so
abbrev pub HasNoFault : Full → Type 0
HasNoFault r = list_any is_fault r.made ≡ false

-- it delivers an entry that r or one of the later records made, and that none of these delivered
-- Premise: each record after it: it delivers the entry of some `number`, `delivered`, which is `new`, as this packet or
-- a later delivery brought it about; `once`, as no record before did; and `sound`: no send of it failed by itself.
pub record DeliversFresh (r : Full) (later : List Full) (q : Full) : Type 0 where
  pub number : ℕ
  pub delivered : q.delivered ≡ Some number
  pub new : r.first ≤ number
  pub once : was_delivered number later ≡ false
  pub sound : HasNoFault q

-- *fresh schedule*: deliveries alone after a record, each of an entry that it or an earlier one of them made, none
-- twice; no send fails. Complete: no such entry is left.
-- each of the records after r does so, the latest first
abbrev pub AreFresh : Full → List Full → Type 0
AreFresh r [] = HasNoFault r
AreFresh r (q ∷ later) = DeliversFresh r later q × AreFresh r later

-- every entry that r, the record after H, or one of the later records made was delivered by one of these
abbrev pub IsComplete : List Full → Full → List Full → Type 0
IsComplete H r later = (number : ℕ) → r.first ≤ number → number < length (wire (later ++ r ∷ H)) → was_delivered number later ≡ true

-- WHAT A SCHEDULE BRINGS

-- one of these records is so
abbrev pub SomeIs : (Full → Type 0) → List Full → Type 0
SomeIs P [] = ⊥
SomeIs P (q ∷ later) = P q ⊎ SomeIs P later

-- one of the first so many records is, the latest of all coming first
pub record IsWithin (most : ℕ) (P : Full → Type 0) (later : List Full) : Type 0 where
  pub rest : List Full
  pub first : List Full
  pub split : later ≡ rest ++ first
  pub few : length first ≤ most
  pub comes : SomeIs P first
