-- The counts of a capture, by what is said of its records.
use Rattle.std.specs.Prelude.{ℕ, ◌+◌, ◌==◌, ◌&&◌, ◌||◌, not, Bool, true, false, List, [], ◌∷◌, length, count_by, Option, Some, None, is_some}
use Rattle.teredo_node.specs.Fate.{is_drop}
use Rattle.td_explain.specs.declared.said.Said.{Said}
use Rattle.td_explain.specs.declared.said.Said.TheVariants.{Skipped, Held}
use Rattle.td_explain.specs.declared.question.Question.{Question}
use Rattle.td_explain.specs.declared.question.Drawn.{Drawn}
use Rattle.td_explain.specs.declared.question.Drawn.TheVariants as drawings
use Rattle.td_explain.specs.declared.answered.Answered.{Answered}
use Rattle.td_explain.specs.declared.answered.Licensing.{Licensing}
use Rattle.td_explain.specs.declared.answered.Licensing.TheVariants.{Licensed, Again, Near, Unasked}
use Rattle.td_explain.specs.declared.tally.Tally.{Tally}

-- a record as one with a datagram to the server, and from it
abbrev pub asked_said : Said → Option Question
asked_said (Skipped why) = None
asked_said (Held asked answered) = asked

-- what was said of a datagram from the server, if the record holds one
abbrev pub answered_said : Said → Option Answered
answered_said (Skipped why) = None
answered_said (Held asked answered) = answered

-- does the record hold no datagram?
abbrev pub is_skip : Said → Bool
is_skip (Skipped why) = true
is_skip (Held asked answered) = false

-- the table drops it
abbrev pub is_dropped : Option Question → Bool
is_dropped None = false
is_dropped (Some question) = is_drop question.fate

-- it draws a datagram
abbrev pub is_datagram : Drawn → Bool
is_datagram drawings.Nothing = false
is_datagram (drawings.Datagram src dst len) = true
is_datagram (drawings.Six len) = false

-- did a datagram to the server draw an output?
abbrev pub draws_datagram : Option Question → Bool
draws_datagram None = false
draws_datagram (Some question) = is_datagram question.drawn

-- the place that licenses it
abbrev pub licensed_place : Licensing → Option ℕ
licensed_place (Licensed by) = Some by
licensed_place (Again place) = None
licensed_place (Near place at) = None
licensed_place Unasked = None

-- the place that licenses the datagram, if one does
abbrev pub licenser : Option Answered → Option ℕ
licenser None = None
licenser (Some answered) = licensed_place answered.licensing

-- it is from the server, and nothing licenses it
abbrev pub is_unlicensed : Option Answered → Bool
is_unlicensed None = false
is_unlicensed (Some answered) = not (is_some (licensed_place answered.licensing))

-- the places with one more, if there is one
abbrev pub with_place : Option ℕ → List ℕ → List ℕ
with_place None places = places
with_place (Some place) places = place ∷ places

-- the places that license one of these
abbrev pub licensers : List Said → List ℕ
licensers [] = []
licensers (x ∷ xs) = with_place (licenser (answered_said x)) (licensers xs)

-- a place is among these
abbrev pub is_among : ℕ → List ℕ → Bool
is_among place [] = false
is_among place (p ∷ ps) = (p == place) || is_among place ps

-- which of some places, the first of them with this number, draw a datagram and are none of those that are used
abbrev pub waiting_places_from : List ℕ → ℕ → List Said → List Bool
waiting_places_from used place [] = []
waiting_places_from used place (x ∷ xs) = (draws_datagram (asked_said x) && not (is_among place used)) ∷ waiting_places_from used (place + 1) xs

-- which places draw a datagram that didn't come in its turn
abbrev pub waiting : List Said → List Bool
waiting xs = waiting_places_from (licensers xs) 0 xs

-- how many they are
abbrev pub silent : List Said → ℕ
silent xs = count_by (λ waits. waits) (waiting xs)

-- how many from the server aren't licensed
abbrev pub unlicensed : List Said → ℕ
unlicensed xs = count_by (λ x. is_unlicensed (answered_said x)) xs

-- all counts
abbrev pub tally_of : List Said → Tally
tally_of xs = record {
  packets = length xs;
  asked = count_by (λ x. is_some (asked_said x)) xs;
  answered = count_by (λ x. is_some (answered_said x)) xs;
  skipped = count_by is_skip xs;
  dropped = count_by (λ x. is_dropped (asked_said x)) xs;
  silent = silent xs;
  unlicensed = unlicensed xs;
}
