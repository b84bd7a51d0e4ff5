-- What is left of an event falls with each further record, so each event has an end.
use Rattle.std.specs.Prelude.{◌≡◌, ◌≤◌, ◌<◌, ◌+◌, true, List, ◌∷◌, length}
use Rattle.events.specs.declared.event.TheConstants.{ENTRY_NUMBER_MAX}
use Rattle.topology.specs.Rules.{IsTopology}
use Rattle.history.specs.Full.{Full, wire}
use Rattle.legal.specs.Lab.{Lab}
use Rattle.legal.specs.Past.{has_more}
use Rattle.legal.specs.Legal.{Follows, Grown}
use Rattle.weights.specs.Left.{left}

-- after a record that has further ones, less is left, as long as an event can name each entry of the wire
abbrev pub EachFalls : Type 0
EachFalls = (lab : Lab) (H : List Full) (r : Full) → IsTopology lab.topology → Grown lab H → length (wire H) ≤ ENTRY_NUMBER_MAX + 1
    → Follows lab H r → has_more r.asked r.act ≡ true → left lab (r ∷ H) < left lab H
