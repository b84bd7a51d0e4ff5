-- NATs that stand one behind the other: what contracts see of them, and the histories that they stand for.
use Rattle.std.specs.Prelude.{◌≡◌, ◌≤◌, ◌==◌, if◌then◌else◌, ℕ, true, List, [], ◌∷◌, ◌++◌, map, option_map, slice_get, Option, Some, Result, Err, IsOk}
use Rattle.td_base.specs.declared.endpoint.Ep.{Ep}
use Rattle.nat_kinds.specs.declared.settings.NatSettings.{NatSettings}
use Rattle.nat_kinds.specs.declared.refusal.NatRefusal.{NatRefusal}
use Rattle.nat_kinds.specs.declared.refusal.NatRefusal.TheVariants.{NoMemory}
use Rattle.nat_kinds.specs.History.{NatEntry}
use Rattle.nat_kinds.specs.Nat.{NatState}
use Rattle.nat_kinds.specs.Nat.{NatStandsFor}
use Rattle.topology.specs.declared.node.Node.{Node}
use Rattle.topology.specs.Rows.{TopologyState}
use Rattle.topology.specs.Topology.{nodes, as_nat, nat_settings}
use Rattle.topology.specs.Chains.{Behind, NatPasts, Passing, after_passing, nat_set_up, Crossing, crossing, way_out, Inward, comes_to, shut_at}
use Rattle.td_chain.specs.declared.way.Way.{Way}
use Rattle.td_chain.specs.declared.way.Way.TheVariants.{In, Closed}
use Rattle.td_chain.specs.ChainRules.{is_chain}

-- the nodes, which NATs are behind others, the moment of the latest call that may have changed a NAT, and by its number each node that is one
pub record ChainsState : Type 0 where
  pub topology : TopologyState
  pub chain : List Behind
  pub moment : ℕ
  pub nats : List (Option NatState)

-- WHAT IS KEPT

-- each is set up as in the topology, and stands for its history
pub record NatsStand (t : TopologyState) (list : List (Option NatState)) (h : NatPasts) : Type 0 where
  pub set_up : (k : ℕ) (nat : NatState) → slice_get list k ≡ Some (Some nat) → nat.settings ≡ nat_set_up t k
  pub stands : (k : ℕ) (nat : NatState) → slice_get list k ≡ Some (Some nat) → NatStandsFor nat (h k)

-- each NAT that is kept stands for its history
abbrev pub ChainsStandFor : ChainsState → NatPasts → Type 0
ChainsStandFor c h = NatsStand c.topology c.nats h

-- the histories with one entry more at NAT k
abbrev pub with_nat_entry : ℕ → NatEntry → NatPasts → NatPasts
with_nat_entry k e h = λ j. if j == k then e ∷ h j else h j

-- how each is set up
abbrev pub set_ups : List (Option NatState) → List (Option NatSettings)
set_ups list = map (option_map (λ (nat : NatState). nat.settings)) list

-- they are the NATs of the topology, by their numbers
abbrev pub AreNatsOf : TopologyState → List (Option NatState) → Type 0
AreNatsOf t list = set_ups list ≡ map (λ (a : Node). option_map nat_settings (as_nat a)) (nodes t)

-- there is a NAT of this number
abbrev pub NatIsThere : List (Option NatState) → ℕ → Type 0
NatIsThere list k = (s : NatSettings) × (slice_get (set_ups list) k ≡ Some (Some s))

-- each was last called at this moment or before
abbrev pub NatsReady : ℕ → List (Option NatState) → Type 0
NatsReady m list = (k : ℕ) (nat : NatState) → slice_get list k ≡ Some (Some nat) → nat.moment ≤ m

-- the NATs that are kept are those of the topology, in its order, and the chain keeps its rules
pub record NatsKept (t : TopologyState) (chain : List Behind) (m : ℕ) (list : List (Option NatState)) : Type 0 where
  pub rules : is_chain t chain ≡ true
  pub rows : AreNatsOf t list
  pub ready : NatsReady m list

-- OUT

-- Memory was wanting at one NAT on the way, which had a port to give. Those before it let the datagram out, and nothing else changed.
pub record LacksMemory (t : TopologyState) (h : NatPasts) (m : ℕ) (from dst : Ep) (passed : List Passing) (way : List ℕ)
    (new : List (Option NatState)) : Type 0 where
  pub before : List ℕ
  pub at : ℕ
  pub after : List ℕ
  pub split : way ≡ before ++ at ∷ after
  pub gives : IsOk (crossing t h m dst (before ++ at ∷ []) from passed).leaves
  pub stands : NatsStand t new (after_passing (crossing t h m dst before from passed).passed h)

-- the answer is what becomes of the datagram, and each NAT stands for its history with what it let out
abbrev pub Crosses : TopologyState → NatPasts → ℕ → Ep → Ep → List Passing → List ℕ → Result Ep NatRefusal → List (Option NatState) → Type 0
Crosses t h m from dst passed way (Err NoMemory) new = LacksMemory t h m from dst passed way new
Crosses t h m from dst passed way result new = ((crossing t h m dst way from passed).leaves ≡ result)
    × NatsStand t new (after_passing (crossing t h m dst way from passed).passed h)

-- from behind NAT k, where this was let out before
abbrev pub CrossesChain : ChainsState → ChainsState → NatPasts → List Passing → ℕ → ℕ → Ep → Ep → Result Ep NatRefusal → Type 0
CrossesChain old new h passed m k inside dst result = Crosses old.topology h m inside dst passed (way_out old.chain k) result new.nats

-- WERE ONE SENT

-- what would become of a datagram that is sent at m from inside NAT k to dst, on its way out
abbrev pub crossing_out : TopologyState → List Behind → NatPasts → (m k : ℕ) → (inside dst : Ep) → Crossing
crossing_out t chain h m k inside dst = crossing t h m dst (way_out chain k) inside []

-- where it would leave the outermost NAT, or why it wouldn't
abbrev pub chain_out : TopologyState → List Behind → NatPasts → (m k : ℕ) → (inside dst : Ep) → Result Ep NatRefusal
chain_out t chain h m k inside dst = (crossing_out t chain h m k inside dst).leaves

-- the histories once it was sent: with what the NATs on its way let out of it
abbrev pub once_sent : TopologyState → List Behind → NatPasts → (m k : ℕ) → (inside dst : Ep) → NatPasts
once_sent t chain h m k inside dst = after_passing (crossing_out t chain h m k inside dst).passed h

-- IN

-- how it came in
abbrev pub inward_of : Way → Inward
inward_of (In k inside) = comes_to k inside
inward_of (Closed k) = shut_at k
