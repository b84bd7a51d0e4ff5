-- NATs behind NATs: the way of a datagram out and in, over the histories of all NATs.
use Rattle.std.specs.Prelude.{ℕ, ◌==◌, ◌&&◌, Bool, false, List, [], ◌∷◌, ◌++◌, Option, Some, None, option_map, is_some}
use Rattle.std.specs.Prelude.{unwrap_or, Result, Ok, Err, if◌then◌else◌}
use Rattle.td_base.specs.Ip4.{same_ip}
use Rattle.td_base.specs.declared.ipv4.Ip4.{Ip4}
use Rattle.td_base.specs.declared.endpoint.Ep.{Ep}
use Rattle.nat_kinds.specs.History.{NatEntry, Out}
use Rattle.nat_kinds.specs.Answer.{nat_answer}
use Rattle.nat_kinds.specs.Entering.{lets_in}
use Rattle.nat_kinds.specs.declared.outgoing.Outward.{Outward}
use Rattle.nat_kinds.specs.declared.settings.NatSettings.{NatSettings}
use Rattle.nat_kinds.specs.declared.refusal.NatRefusal.{NatRefusal}
use Rattle.topology.specs.declared.nat_node.NatNode.{NatNode}
use Rattle.topology.specs.Rows.{TopologyState}
use Rattle.topology.specs.Topology.{nat_at, settings_of_nat}

-- WHICH NAT IS BEHIND WHICH

-- *inner*, outer: of two NATs of which one is directly behind the other.
-- a NAT that is behind another one: its datagrams pass that one on their way out
pub record Behind : Type 0 where
  pub inner : ℕ
  pub outer : ℕ

-- the NAT that NAT k is behind
abbrev pub outer_in : List Behind → ℕ → Option ℕ
outer_in [] k = None
outer_in (b ∷ rest) k = if b.inner == k then Some b.outer else outer_in rest k

-- is the NAT behind another one?
abbrev pub is_inner : List Behind → ℕ → Bool
is_inner chain k = is_some (outer_in chain k)

-- a NAT, if there is one, and those outside it, the next first; at most so many
abbrev pub nats_from : (chain at_most : List Behind) → Option ℕ → List ℕ
nats_from chain at_most None = []
nats_from chain [] (Some k) = []
nats_from chain (b ∷ rest) (Some k) = k ∷ nats_from chain rest (outer_in chain k)

-- the NATs on the way out from behind NAT k
abbrev pub way_out : List Behind → ℕ → List ℕ
way_out chain k = k ∷ nats_from chain chain (outer_in chain k)

-- the last NAT of a way that begins with NAT k
abbrev pub last_nat : ℕ → List ℕ → ℕ
last_nat k [] = k
last_nat k (j ∷ way) = last_nat j way

-- is it a NAT with this external address?
abbrev pub has_external : Ip4 → Option NatNode → Bool
has_external ip None = false
has_external ip (Some a) = same_ip ip a.external

-- the NAT directly behind NAT k whose external address it is
abbrev pub inner_at : TopologyState → List Behind → ℕ → Ip4 → Option ℕ
inner_at t [] k ip = None
inner_at t (b ∷ rest) k ip = if (b.outer == k) && has_external ip (nat_at t b.inner) then Some b.inner else inner_at t rest k ip

-- OUT

-- the history of each NAT, by its number
abbrev pub NatPasts : Type 0
NatPasts = ℕ → List NatEntry

-- the settings of the NAT of a number
abbrev pub nat_set_up : TopologyState → ℕ → NatSettings
nat_set_up t k = settings_of_nat (nat_at t k)

-- *passed*: in a full record: what each NAT on the way let out of the datagrams that its node sent.
-- a datagram that a NAT let out
pub record Passing : Type 0 where
  pub nat : ℕ
  pub datagram : Outward

-- those of NAT k, as its history has them. All lists of these have the latest first
abbrev pub outs_at : ℕ → List Passing → List NatEntry
outs_at k [] = []
outs_at k (p ∷ ps) = if p.nat == k then Out p.datagram ∷ outs_at k ps else outs_at k ps

-- the histories with these
abbrev pub after_passing : List Passing → NatPasts → NatPasts
after_passing passed h = λ k. outs_at k passed ++ h k

-- what becomes of a datagram on its way out: where it leaves, or why it doesn't; and what was let out till then
pub record Crossing : Type 0 where
  pub leaves : Result Ep NatRefusal
  pub passed : List Passing

-- a NAT let a datagram out, from this port, at this moment
abbrev pub passing : ℕ → ℕ → Ep → Ep → ℕ → Passing
passing k m inside dst port = record { nat = k; datagram = record { moment = record { 0 = m }; inside = inside; dst = dst; port = port } }

-- NAT k answered: it goes on from the NAT's external address, or ends
abbrev pub answered : TopologyState → ℕ → ℕ → Ep → Ep → List Passing → (Ep → List Passing → Crossing) → Result ℕ NatRefusal → Crossing
answered t m k inside dst passed goes_on (Ok port) = goes_on (record { ip = (nat_set_up t k).external; port = port }) (passing k m inside dst port ∷ passed)
answered t m k inside dst passed goes_on (Err why) = record { leaves = Err why; passed = passed }

-- past these NATs, each asked about the endpoint that the one before gave
abbrev pub crossing : TopologyState → NatPasts → ℕ → Ep → List ℕ → Ep → List Passing → Crossing
crossing t h m dst [] from passed = record { leaves = Ok from; passed = passed }
crossing t h m dst (k
    ∷ way) from passed = answered t m k from dst passed (crossing t h m dst way) (nat_answer (nat_set_up t k) (after_passing passed h k) m from dst)

-- IN

-- where a datagram ends that comes to a NAT: behind which NAT and at which endpoint, or shut out by which NAT
pub data Inward : Type 0 where
  comes_to : (nat : ℕ) (inside : Ep) → Inward  -- behind the last NAT
  shut_at : (nat : ℕ) → Inward  -- this NAT lets nothing in

-- the inside endpoint that a NAT lets a datagram in to, if it does
abbrev pub let_in : TopologyState → NatPasts → ℕ → ℕ → Ep → ℕ → Option Ep
let_in t h m k src port = lets_in (nat_set_up t k) (h k) m src port

-- NAT k let it in to an endpoint: on to the NAT behind it with that address, if there is one. At most so many more are passed
abbrev pub goes_in : TopologyState → List Behind → NatPasts → ℕ → Ep → (at_most : List Behind) → ℕ → Option Ep → Inward
goes_in t chain h m src at_most k None = shut_at k
goes_in t chain h m src [] k (Some inside) = comes_to k inside
goes_in t chain h m src (b ∷ rest) k (Some inside) =
    unwrap_or (option_map (λ (j : ℕ). goes_in t chain h m src rest j (let_in t h m j src inside.port)) (inner_at t chain k inside.ip)) (comes_to k inside)

-- a datagram from src at a port of NAT k
abbrev pub chain_in : TopologyState → List Behind → NatPasts → ℕ → ℕ → Ep → ℕ → Inward
chain_in t chain h m k src port = goes_in t chain h m src chain k (let_in t h m k src port)
