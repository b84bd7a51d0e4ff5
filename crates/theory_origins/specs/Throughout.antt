-- All of it, at each record of a history: what can be said of a history that was played.
use Rattle.std.specs.Prelude.{◌≡◌, ℕ, true, false, List, ◌∷◌, ◌++◌, Some}
use Rattle.std.specs.List.{AllByRecursion}
use Rattle.td_base.specs.declared.ipv6.Ip6.{Ip6}
use Rattle.ipv6_packet.specs.Reads.{fields_in}
use Rattle.teredo_addr.specs.Teredo.{is_teredo, embedded}
use Rattle.topology.specs.declared.client_node.ClientNode.{ClientNode}
use Rattle.topology.specs.Rows.{TopologyState}
use Rattle.topology.specs.Rules.{IsTopology}
use Rattle.topology.specs.Topology.{client_at}
use Rattle.topology.specs.Chains.{Behind}
use Rattle.events.specs.Events.{IsEvent}
use Rattle.events.specs.Scenario.{Scenario}
use Rattle.history.specs.Full.{Full}
use Rattle.legal.specs.Lab.{Lab, lab_of}
use Rattle.legal.specs.Legal.{Begun, Grown}
use Rattle.legal.specs.Honest.{is_honest, are_honest, is_honest_for, are_honest_for}
use Rattle.theory_origins.specs.Handed.{HandsToHost, IsBrought}
use Rattle.theory_origins.specs.Origin.{HasOrigin}
use Rattle.theory_origins.specs.Outside.{ReachesHost, IsBroughtBy}
use Rattle.theory_origins.specs.FromOutside.{HasOutsideOrigin}
use Rattle.theory_origins.specs.AtNatives.{ComesToNative, WasPassedOn}
use Rattle.theory_origins.specs.Live.{IsLive}

-- of the record after H
pub record HasOrigins (lab : Lab) (H : List Full) (r : Full) : Type 0 where
  -- what a client's host is handed at once came in a datagram, with a Teredo source from where that says
  pub brought : (n : ℕ) (c : ClientNode) (x : List ℕ) → HandsToHost lab r n c x → IsBrought lab H r c x
  -- and late too in some datagram
  pub brought_by : (n : ℕ) (c : ClientNode) (x : List ℕ) → ReachesHost lab r n c x → IsBroughtBy H r n x
  -- what it is handed late has no Teredo source
  pub late : (n : ℕ) (c : ClientNode) → r.node ≡ Some n → client_at lab.topology n ≡ Some c
      → AllByRecursion (λ x. is_teredo (fields_in x).src ≡ false) r.late
  -- such a datagram was put there by a named event, or by a client whose host had handed in the packet
  pub origin : (n : ℕ) (c : ClientNode) (x : List ℕ) (k : ℕ) → HandsToHost lab r n c x → is_teredo (fields_in x).src ≡ true
      → r.delivered ≡ Some k → HasOrigin lab H k (fields_in x).src x
  -- what such a host is handed from outside Teredo was put there by a named event, or came from a relay for the native that sent it
  pub outside : (n : ℕ) (c : ClientNode) (x : List ℕ) → ReachesHost lab r n c x → is_teredo (fields_in x).src ≡ false → HasOutsideOrigin lab H r n x
  -- what a native is brought with a Teredo source was passed on by a server or a relay, from where the source says
  pub passed_on : (k : ℕ) (x : List ℕ) → ComesToNative lab H r k x → is_teredo (fields_in x).src ≡ true → WasPassedOn lab H k (fields_in x).src x
  -- in a history that is honest for a client an address that it gets leads to it
  pub live : (n : ℕ) (c : ClientNode) (own : Ip6) → are_honest_for lab.topology c (r ∷ H) ≡ true → r.node ≡ Some n → client_at lab.topology n ≡ Some c
      → r.address ≡ Some own → IsLive lab (r ∷ H) c (embedded own)

-- of each record
abbrev pub HasOriginsThroughout : Lab → List Full → Type 0
HasOriginsThroughout lab H = (later : List Full) (r : Full) (before : List Full) → H ≡ later ++ r ∷ before → HasOrigins lab before r

-- a history of a topology that keeps its rules has them throughout
abbrev pub HistoriesHaveOrigins : Type 0
HistoriesHaveOrigins = (lab : Lab) (H : List Full) → IsTopology lab.topology → Grown lab H → HasOriginsThroughout lab H

-- so has each history of a scenario, as far as it was played, whichever NATs are behind others
abbrev pub ScenariosHaveOrigins : Type 0
ScenariosHaveOrigins = (s : Scenario) (chain : List Behind) (H : List Full) → IsTopology s.topology → AllByRecursion (IsEvent s.topology) s.events
    → Begun (lab_of s chain) s.events H → HasOriginsThroughout (lab_of s chain) H

-- the history of an honest scenario is honest
abbrev pub HonestScenarios : Type 0
HonestScenarios = (s : Scenario) (chain : List Behind) (H : List Full) → is_honest s ≡ true → Begun (lab_of s chain) s.events H → are_honest s.topology H ≡ true

-- that of one that is honest for a client is so
abbrev pub HonestForScenarios : Type 0
HonestForScenarios = (s : Scenario) (chain : List Behind) (H : List Full) (c : ClientNode) → is_honest_for s c ≡ true → Begun (lab_of s chain) s.events H
    → are_honest_for s.topology c H ≡ true

-- what is honest is so for each client
abbrev pub HonestIsForEach : Type 0
HonestIsForEach = (t : TopologyState) (n : ℕ) (c : ClientNode) (H : List Full) → IsTopology t → client_at t n ≡ Some c → are_honest t H ≡ true
    → are_honest_for t c H ≡ true
