-- What the NATs of a way let out of a datagram, found by the ports that they have live.
use Rattle.std.specs.Prelude.{ℕ, if◌then◌else◌, List, [], ◌∷◌, Option, Some, None}
use Rattle.td_base.specs.Ip4.{same_ip}
use Rattle.td_base.specs.declared.endpoint.Ep.{Ep}
use Rattle.nat_kinds.specs.Mappings.{live_port}
use Rattle.nat_kinds.specs.Answer.{live_after}
use Rattle.topology.specs.Rows.{TopologyState}
use Rattle.topology.specs.Chains.{NatPasts, Passing, passing, nat_set_up}
use Rattle.td_chain.specs.declared.let_out.LetOut.{LetOut}

-- the port that NAT k has live at m for datagrams from an endpoint to another one
abbrev pub live_at : TopologyState → NatPasts → (m k : ℕ) → (from dst : Ep) → Option ℕ
live_at t h m k from dst = live_port (nat_set_up t k).kind from dst (live_after (nat_set_up t k) (h k) m)

-- the port by which NAT k lets such a datagram out: none where it goes to the NAT's own address
abbrev pub passed_by : TopologyState → NatPasts → (m k : ℕ) → (from dst : Ep) → Option ℕ
passed_by t h m k from dst = if same_ip dst.ip (nat_set_up t k).external then None else live_at t h m k from dst

-- NAT k lets it out by this port, if there is one, and it goes on from the NAT's external address
abbrev pub walked_on : TopologyState → (m k : ℕ) → (from dst : Ep) → (Ep → List Passing) → Option ℕ → List Passing
walked_on t m k from dst goes_on None = []
walked_on t m k from dst goes_on (Some port) = passing k m from dst port ∷ goes_on (record { ip = (nat_set_up t k).external; port = port })

-- *walk*: what the NATs of a way let out of a datagram, the first NAT's first, where each lets it out by the port that it has live
-- for it, up to the first that has none or whose own address the datagram is for.
-- past these NATs from an endpoint, at m
abbrev pub walk : TopologyState → NatPasts → ℕ → Ep → List ℕ → Ep → List Passing
walk t h m dst [] from = []
walk t h m dst (k ∷ way) from = walked_on t m k from dst (walk t h m dst way) (passed_by t h m k from dst)

-- what a NAT let out, as a walk has it
abbrev pub passing_of : LetOut → Passing
passing_of x = record { nat = x.nat; datagram = x.datagram }
