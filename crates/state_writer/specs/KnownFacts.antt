-- What a record changed of a client or a relay, where nothing is void.
use Rattle.std.specs.Prelude.{ℕ, List, ◌∷◌, ◌++◌, option_to_list}
use Rattle.topology.specs.Rows.{TopologyState}
use Rattle.topology.specs.Topology.{node_at}
use Rattle.history.specs.Full.{Full}
use Rattle.legal.specs.Past.{journal}
use Rattle.states.specs.Facts.{Fact}
use Rattle.state_query.specs.OwnFacts.{own_fact}
use Rattle.state_query.specs.PeerFacts.{changed_facts}

-- what node n is after the record, and whom the record concerned there
abbrev pub known_facts : TopologyState → Full → List Full → ℕ → List Fact
known_facts t r H n = option_to_list (own_fact t (journal n (r ∷ H)) r.moment (node_at t n)) ++ changed_facts r (journal n (r ∷ H)) (node_at t n)
