-- What the places of a capture draw. A place is a record's number in the capture, from 0.
use Rattle.std.specs.Prelude.{ℕ, ◌+◌, ◌-◌, ◌==◌, ◌&&◌, Bool, List, [], ◌∷◌, length, map, slice_get, Option, Some, None, if◌then◌else◌}
use Rattle.td_base.specs.Ep.{same_ep}
use Rattle.server_core.specs.declared.server.ServerSettings.{ServerSettings}
use Rattle.td_audit.specs.Datagrams.{Datagram, same_datagram}
use Rattle.td_audit.specs.Licences.{output}

-- a place, and the datagram that is its output
pub record Placed : Type 0 where
  pub place : ℕ
  pub datagram : Datagram

-- a datagram with the place whose output it is
abbrev pub placed_output : ℕ → Datagram → Placed
placed_output place d = record { place = place; datagram = d }

-- an output before others, where it passes a test
abbrev pub with_output : (Datagram → Bool) → ℕ → Option Datagram → List Placed → List Placed
with_output test place None others = others
with_output test place (Some d) others = if test d then placed_output place d ∷ others else others

-- the outputs that pass a test, the earliest first, where the first place has this number
abbrev pub outputs_from : ServerSettings → (Datagram → Bool) → ℕ → List (Option Datagram) → List Placed
outputs_from s test place [] = []
outputs_from s test place (held ∷ more) = with_output test place (output s held) (outputs_from s test (place + 1) more)

-- the last one of a list
abbrev pub latest_of : {A : Type 0} → List A → Option A
latest_of xs = slice_get xs (length xs - 1)

-- the places whose output is d
abbrev pub own_places : ServerSettings → Datagram → List (Option Datagram) → List ℕ
own_places s d places = map (λ (p : Placed). p.place) (outputs_from s (same_datagram d) 0 places)

-- the same ends, and as long a body
abbrev pub is_like : Datagram → Datagram → Bool
is_like d e = same_ep d.src e.src && (same_ep d.dst e.dst && (length d.body == length e.body))

-- the latest output that is like d
abbrev pub latest_like : ServerSettings → Datagram → List (Option Datagram) → Option Placed
latest_like s d places = latest_of (outputs_from s (is_like d) 0 places)
