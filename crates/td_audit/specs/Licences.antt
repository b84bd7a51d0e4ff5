-- Which datagrams of a server earlier ones license. A place is a record's number in the capture; a record that is skipped
-- holds no datagram.
use Rattle.std.specs.Prelude.{◌≡◌, ◌≤◌, ◌<◌, ◌+◌, ℕ, List, [], ◌∷◌, length, map, take, slice_get, true, if◌then◌else◌, Option, Some, None}
use Rattle.td_base.specs.Ep.{same_ep}
use Rattle.td_base.specs.declared.endpoint.Ep.{Ep}
use Rattle.td_base.specs.declared.side.Side.{Side}
use Rattle.td_base.specs.declared.side.Side.TheVariants.{Primary, Secondary}
use Rattle.teredo_node.specs.Step.{Send}
use Rattle.server_core.specs.declared.server.ServerSettings.{ServerSettings}
use Rattle.server_core.specs.Bounds.{endpoint}
use Rattle.server_core.specs.Server.{server_row}
use Rattle.td_audit.specs.Datagrams.{Datagram, datagram, times, is_audited}

-- the server's side that has an endpoint
abbrev pub side_with : ServerSettings → Ep → Side
side_with s ep = if same_ep ep (endpoint s Primary) then Primary else Secondary

-- what a step sends, as it is on the wire
abbrev pub on_wire : ServerSettings → List Send → Option Datagram
on_wire s [] = None
on_wire s (x ∷ xs) = Some (datagram (endpoint s x.side) x.to x.bytes)

-- what the server sends on a datagram
unfoldable pub reply_to : ServerSettings → Datagram → Option Datagram
reply_to s d = on_wire s (server_row s (side_with s d.dst) d.src d.body).sends

-- *output of a place*: what the server's table sends on a datagram to it, one at most.
-- what the server sends on what a place holds, where that is a datagram to it
abbrev pub output : ServerSettings → Option Datagram → Option Datagram
output s None = None
output s (Some d) = if is_audited s d.dst then reply_to s d else None

-- *licensed*: of a place with a datagram from the server: the places before it with that output are at least as many as
-- those up to and with it that hold the datagram.
-- A datagram from the server is licensed at its place: the places before whose output it is are at least as many as those
-- up to and with the place that hold it.
abbrev pub IsLicensed : ServerSettings → List (Option Datagram) → ℕ → Type 0
IsLicensed s places place = (d : Datagram) → slice_get places place ≡ Some (Some d) → is_audited s d.src ≡ true
    → times d (take (place + 1) places) ≤ times d (map (output s) (take place places))

-- each place is licensed
abbrev pub AreLicensed : ServerSettings → List (Option Datagram) → Type 0
AreLicensed s places = (place : ℕ) → place < length places → IsLicensed s places place

-- the least place that isn't licensed
pub record IsFirstUnlicensed (s : ServerSettings) (places : List (Option Datagram)) (place : ℕ) : Type 0 where
  pub inside : place < length places
  pub unlicensed : IsLicensed s places place → ⊥
  pub before : (earlier : ℕ) → earlier < place → IsLicensed s places earlier
