-- How what a node sends comes onto the wire.
use Rattle.std.specs.Prelude.{◌≡◌, ◌++◌, Bool, true, List, Option, Result}
use Rattle.td_base.specs.declared.endpoint.Ep.{Ep}
use Rattle.teredo_node.specs.Step.{Send}
use Rattle.topology.specs.Rows.{TopologyState}
use Rattle.topology.specs.Named.{is_nat}
use Rattle.topology.specs.Topology.{node_at}
use Rattle.topology.specs.Chains.{Passing, after_passing, Crossing}
use Rattle.td_chain.specs.Chains.{ChainsState}
use Rattle.td_chain.specs.Chains.{ChainsStandFor}
use Rattle.history.specs.declared.mark.Loss.{Loss}
use Rattle.history.specs.Full.{Full}
use Rattle.legal.specs.Lab.{Lab}
use Rattle.legal.specs.Past.{nat_pasts}
use Rattle.legal.specs.Emit.{Sendings, or_loss}
use Rattle.lab_nodes.specs.declared.outlet.Outlet.{Outlet}
use Rattle.lab_nodes.specs.declared.outlet.Outlet.TheVariants.{Through}
use Rattle.lab_nodes.specs.declared.asked.SixPacket.{SixPacket}
use Rattle.lab_nodes.specs.Outlet.{sendings_but}
use Rattle.world.specs.declared.sender.Sender.{Sender}

-- the NATs are those of the laboratory, and stand for their histories with what was let out since
pub record AreNatsWith (lab : Lab) (H : List Full) (passed : List Passing) (nats : ChainsState) : Type 0 where
  pub topology : nats.topology ≡ lab.topology
  pub chain : nats.chain ≡ lab.chain
  pub stands : ChainsStandFor nats (after_passing passed (nat_pasts lab H))

-- they know a part of what was let out, the earliest of it
pub record AreNatsAmid (lab : Lab) (H : List Full) (passed : List Passing) (nats : ChainsState) : Type 0 where
  pub so_far : List Passing
  pub rest : List Passing
  pub parts : passed ≡ rest ++ so_far
  pub knows : AreNatsWith lab H so_far nats

-- a datagram has the source that its way gave it, or is lost, and the NATs know what was let out
pub record Crossed (lab : Lab) (H : List Full) (c : Crossing) (failing : Bool) (src : Result Ep Loss) (nats : ChainsState) : Type 0 where
  pub source : src ≡ or_loss failing c.leaves
  pub knows : AreNatsWith lab H c.passed nats

-- what leaves through a NAT leaves through one that is there
abbrev pub HasItsNat : Outlet → TopologyState → Type 0
HasItsNat (Through inside k) t = is_nat (node_at t k) ≡ true
HasItsNat _ t = Unit {0}

-- what becomes of what is sent
abbrev pub emitted_by : Lab → List Full → Sender → Option SixPacket → List Send → Sendings
emitted_by lab H x packet sends = sendings_but lab H x.now.0 x.fails x.outlet packet sends
