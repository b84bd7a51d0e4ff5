-- The link over sockets, as its callers see it.
use Rattle.std.specs.Prelude.{ℕ, Bool, if◌then◌else◌, Option, None, Result, Ok, Err}
use Rattle.td_base.specs.declared.ipv4.Ip4.{Ip4}
use Rattle.td_base.specs.declared.endpoint.Ep.{Ep}
use Rattle.td_outside.specs.declared.fails.Failed.{Failed}
use Rattle.td_outside.specs.declared.link.Place.{Place}
use Rattle.td_outside.specs.Causes.{raised, raised_if}
use Rattle.td_outside.specs.Link.{open_on, client_on}

-- where it is open, and how often a call failed
pub record Pair : Type 0 where
  pub place : Option Place
  pub recv_faults : ℕ
  pub send_faults : ℕ

-- the pair after a call of open, which leaves it shut where it failed
abbrev pub pair_opened : Pair → Ip4 → Ip4 → Bool → Pair
pair_opened pair primary secondary failed = record pair {
  place = if failed then None else open_on primary secondary;
  recv_faults = raised_if failed pair.recv_faults;
}

-- the pair after a call of open_client with this answer, which leaves it shut where it failed
abbrev pub client_opened : Pair → Result Ep Failed → Pair
client_opened pair (Ok at) = record pair { place = client_on at }
client_opened pair (Err fault) = record pair { place = None; recv_faults = raised pair.recv_faults }

-- the pair after a call of recv
abbrev pub pair_received : Pair → Bool → Pair
pair_received pair failed = record pair { recv_faults = raised_if failed pair.recv_faults }

-- the pair after a call of send
abbrev pub pair_sent : Pair → Bool → Pair
pair_sent pair failed = record pair { send_faults = raised_if failed pair.send_faults }
