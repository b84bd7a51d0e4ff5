-- What a client or a relay keeps besides its peers, and that a line tells it.
use Rattle.std.specs.Prelude.{◌≡◌, ℕ, Bool, true, false, List, Option, Some, None}
use Rattle.teredo_node.specs.Journal.{Journal}
use Rattle.topology.specs.Rows.{TopologyState}
use Rattle.topology.specs.declared.node.Node.{Node}
use Rattle.topology.specs.declared.node.Node.TheVariants.{Server as server, Nat as nat, Client as client, Relay as relay, Native as native}
use Rattle.states.specs.Facts.{Fact}
use Rattle.states.specs.Kept.{client_fact, relay_fact, at_node}
use Rattle.states.specs.StateLines.{fact_line}

-- after this journal, at n; other nodes keep nothing of this kind
abbrev pub own_fact : TopologyState → Journal → ℕ → Option Node → Option Fact
own_fact t j n None = None
own_fact t j n (Some (server a)) = None
own_fact t j n (Some (nat a)) = None
own_fact t j n (Some (client c)) = Some (client_fact t c j n)
own_fact t j n (Some (relay r)) = Some (relay_fact j n)
own_fact t j n (Some (native h)) = None

-- the line tells the fact about node k, if there is one
abbrev pub TellsFact : TopologyState → Option ℕ → ℕ → ℕ → Option Fact → Bool → List ℕ → Type 0
TellsFact t i m k None told line = told ≡ false
TellsFact t i m k (Some f) told line = (told ≡ true) × (line ≡ fact_line t i m (at_node k f))
