-- What is left of an event that goes on.
use Rattle.std.specs.Prelude.{ℕ, ◌+◌, if◌then◌else◌, List, [], ◌∷◌}
use Rattle.events.specs.declared.event.Event.{Event}
use Rattle.events.specs.declared.event.Event.TheVariants as event
use Rattle.history.specs.Full.{Full}
use Rattle.legal.specs.declared.left.TheConstants.{LEFT_MAX}
use Rattle.legal.specs.Lab.{Lab}
use Rattle.legal.specs.Past.{began, has_more}
use Rattle.legal.specs.Left.{left_to}
use Rattle.weights.specs.Burden.{burden}

-- of an advance the time to what is due; of a `settle` what can follow from all that is undelivered or waits
abbrev pub left_of_event : Lab → List Full → Event → ℕ
left_of_event lab H (event.Advance ms) = left_to lab H (began H + ms)
left_of_event lab H event.Settle = burden lab.topology H
left_of_event lab H _ = 0

-- *left*: of an `advance`: over all that falls due up to its end, the time from then on, or from now on where it is
-- past; it falls with each further record.
-- as much as may be where the next record begins an event
abbrev pub left : Lab → List Full → ℕ
left lab [] = LEFT_MAX
left lab (r ∷ H) = if has_more r.asked r.act then left_of_event lab (r ∷ H) r.asked else LEFT_MAX
