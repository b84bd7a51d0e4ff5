-- What licenses a datagram from the server.
use Rattle.std.specs.Prelude.{ℕ, List, slice_get, Option, Some, None}
use Rattle.server_core.specs.declared.server.ServerSettings.{ServerSettings}
use Rattle.td_audit.specs.Datagrams.{Datagram, times}
use Rattle.td_explain.specs.declared.answered.Licensing.{Licensing}
use Rattle.td_explain.specs.declared.answered.Licensing.TheVariants.{Licensed, Again, Near, Unasked}
use Rattle.td_explain.specs.declared.answered.Answered.{Answered}
use Rattle.td_explain.specs.Difference.{difference}
use Rattle.td_explain.specs.Outputs.{Placed, latest_of, own_places, latest_like}

-- the place that licenses it, the latest one whose output it is, or that it is no output
abbrev pub own_licensing : Option ℕ → Option ℕ → Option Licensing
own_licensing (Some by) latest = Some (Licensed by)
own_licensing None (Some place) = Some (Again place)
own_licensing None None = None

-- a body that came beside the latest output that is like it
abbrev pub near_licensing : List ℕ → Option Placed → Licensing
near_licensing body None = Unasked
near_licensing body (Some p) = Near p.place (difference p.datagram.body body)

-- the first, or, where there is none, the other
abbrev pub licensing_or : Option Licensing → Licensing → Licensing
licensing_or (Some own) other = own
licensing_or None other = other

-- What licenses a datagram that comes after some places: it has come so often, and each time used one of its places up,
-- the earliest first, or none.
abbrev pub licensing : ServerSettings → List (Option Datagram) → Datagram → Licensing
licensing s before d =
    let own = own_places s d before in
    licensing_or (own_licensing (slice_get own (times d before)) (latest_of own)) (near_licensing d.body (latest_like s d before))

-- a datagram from the server
abbrev pub answered_after : ServerSettings → List (Option Datagram) → Datagram → Answered
answered_after s before d = record { dst = d.dst; licensing = licensing s before d }
