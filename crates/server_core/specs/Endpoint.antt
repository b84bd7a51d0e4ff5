-- The server as an endpoint of a link.
use Rattle.std.specs.Prelude.{◌≡◌, ℕ, List}
use Rattle.td_base.specs.declared.endpoint.Ep.{Ep}
use Rattle.td_base.specs.declared.side.Side.{Side}
use Rattle.teredo_node.specs.declared.fate.Fate.TheVariants as fate
use Rattle.teredo_node.specs.Step.{Step, just}
use Rattle.server_core.specs.declared.server.ServerSettings.{ServerSettings}
use Rattle.server_core.specs.Server.{server_row}

-- the server answers each datagram by its table, and stays as it is
abbrev pub MeetsRow : ServerSettings → Side → Ep → List ℕ → Step → ServerSettings → Type 0
MeetsRow s side from x step new = (new ≡ s) × (step ≡ server_row s side from x)

-- where no datagram came the server does nothing, and stays as it is
abbrev pub StaysIdle : ServerSettings → Step → ServerSettings → Type 0
StaysIdle s step new = (new ≡ s) × (step ≡ just fate.Idle)
