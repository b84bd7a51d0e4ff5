-- Datagrams as an audit sees them, and which of them are the same.
use Rattle.std.specs.Prelude.{ℕ, List, Bool, false, ◌&&◌, ◌||◌, not, count_by, Option, Some, None}
use Rattle.std.specs.Str.{bytes_eq}
use Rattle.td_base.specs.Ep.{same_ep}
use Rattle.td_base.specs.declared.endpoint.Ep.{Ep}
use Rattle.td_base.specs.declared.side.Side.TheVariants.{Primary, Secondary}
use Rattle.server_core.specs.declared.server.ServerSettings.{ServerSettings}
use Rattle.server_core.specs.Bounds.{endpoint}

-- a UDP datagram over IPv4: of the settings of IPv4, only the addresses are looked at
pub record Datagram : Type 0 where
  pub src : Ep
  pub dst : Ep
  pub body : List ℕ

-- the datagram of two endpoints and a body
abbrev pub datagram : Ep → Ep → List ℕ → Datagram
datagram src dst body = record { src = src; dst = dst; body = body }

-- *the same datagram*: the same source, destination and body.
-- the same source, destination and body
unfoldable pub same_datagram : Datagram → Datagram → Bool
same_datagram a b = same_ep a.src b.src && (same_ep a.dst b.dst && bytes_eq a.body b.body)

-- is it a datagram, and this one?
abbrev pub is_same : Datagram → Option Datagram → Bool
is_same d None = false
is_same d (Some e) = same_datagram d e

-- how many of some places hold the datagram d
abbrev pub times : Datagram → List (Option Datagram) → ℕ
times d places = count_by (is_same d) places

-- one of the server's two endpoints
unfoldable pub is_audited : ServerSettings → Ep → Bool
is_audited s ep = same_ep ep (endpoint s Primary) || same_ep ep (endpoint s Secondary)

-- a datagram to the server, one from it, and neither
abbrev pub is_to_audited : ServerSettings → Option Datagram → Bool
is_to_audited s None = false
is_to_audited s (Some d) = is_audited s d.dst

-- is it a datagram from an endpoint of the server?
abbrev pub is_from_audited : ServerSettings → Option Datagram → Bool
is_from_audited s None = false
is_from_audited s (Some d) = is_audited s d.src

-- is the record neither to the server nor from it?
abbrev pub is_skipped : ServerSettings → Option Datagram → Bool
is_skipped s held = not (is_to_audited s held) && not (is_from_audited s held)
