-- How what a node sends leaves it, and what becomes of it.
use Rattle.std.specs.Prelude.{ℕ, List, [], ◌∷◌, ◌++◌, Option, Some, None}
use Rattle.td_base.specs.declared.endpoint.Ep.{Ep}
use Rattle.td_base.specs.declared.side.Side.{Side}
use Rattle.td_base.specs.declared.side.Side.TheVariants.{Primary, Secondary}
use Rattle.teredo_node.specs.Step.{Send}
use Rattle.topology.specs.declared.node.Node.{Node}
use Rattle.topology.specs.declared.node.Node.TheVariants.{Nat as nat, Client as client, Native as native}
use Rattle.topology.specs.Topology.{own_ep}
use Rattle.topology.specs.Chains.{way_out}
use Rattle.history.specs.Full.{Full, six, Made, sent}
use Rattle.legal.specs.Lab.{Lab}
use Rattle.legal.specs.Past.{armed}
use Rattle.legal.specs.Emit.{Sendings, direct, outright, by_way}
use Rattle.lab_nodes.specs.declared.outlet.Outlet.{Outlet}
use Rattle.lab_nodes.specs.declared.outlet.Outlet.TheVariants.{Silent, Own, Through}
use Rattle.lab_nodes.specs.declared.asked.SixPacket.{SixPacket}

-- a server and a relay send from endpoints of their own, a client from its endpoint behind its NAT
abbrev pub outlet_of : Node → Outlet
outlet_of (client c) = Through c.inside c.nat
outlet_of (nat a) = Silent
outlet_of (native h) = Silent
outlet_of a = Own (own_ep a Primary) (own_ep a Secondary)

-- the endpoint of its own that a datagram leaves from
abbrev pub source_at : Ep → Ep → Side → Ep
source_at primary secondary Primary = primary
source_at primary secondary Secondary = secondary

-- the entry of the packet that is sent besides the datagrams
abbrev pub six_sent : Option SixPacket → List Made
six_sent None = []
six_sent (Some packet) = sent (six packet.relay packet.bytes.now) ∷ []

-- what becomes of datagrams that leave so, of which the one of a number fails, and of a packet besides them
abbrev pub sendings_but : Lab → List Full → ℕ → (fails : Option ℕ) → Outlet → Option SixPacket → List Send → Sendings
sendings_but lab H m fails Silent packet xs = direct (six_sent packet)
sendings_but lab H m fails (Own primary secondary) packet xs = direct (outright (source_at primary secondary) fails 0 xs ++ six_sent packet)
sendings_but lab H m fails (Through inside k) packet xs = by_way lab H m (way_out lab.chain k) inside fails 0 [] xs

-- the one that was armed does
abbrev pub sendings_by : Lab → List Full → ℕ → Outlet → Option SixPacket → List Send → Sendings
sendings_by lab H m outlet packet xs = sendings_but lab H m (armed H) outlet packet xs
