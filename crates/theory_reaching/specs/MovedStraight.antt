-- `moved` where a packet goes at once: its sender doesn't speak to where it goes; and where it draws bubbles or a test, which leave from
-- elsewhere. These words want neither client settled, nor anything of other clients.
use Rattle.std.specs.Prelude.{◌≡◌, ◌||◌, ℕ, true, false, List, ◌∷◌, ◌++◌, Some}
use Rattle.td_base.specs.declared.endpoint.Ep.{Ep}
use Rattle.teredo_addr.specs.Teredo.{has_cone, embedded}
use Rattle.peer_list.specs.Judged.{is_fresh, is_trusted_at}
use Rattle.topology.specs.declared.client_node.ClientNode.{ClientNode}
use Rattle.topology.specs.declared.relay_node.RelayNode.{RelayNode}
use Rattle.topology.specs.declared.native_node.NativeNode.{NativeNode}
use Rattle.topology.specs.declared.node.Node.TheVariants.{Client as client, Native as native}
use Rattle.topology.specs.Rules.{IsTopology}
use Rattle.topology.specs.Topology.{node_at, relay_at}
use Rattle.history.specs.Full.{Full}
use Rattle.legal.specs.Lab.{Lab}
use Rattle.legal.specs.Past.{now}
use Rattle.legal.specs.Next.{address_at}
use Rattle.legal.specs.Legal.{Grown}
use Rattle.theory_settled.specs.Clients.{asks_at}
use Rattle.theory_first_packets.specs.MayMeet.{known_by}
use Rattle.theory_first_packets.specs.Schedules.{AreFresh}
use Rattle.theory_reaching.specs.Conditions.{is_on}
use Rattle.theory_reaching.specs.Promises.{IsSentNext, IsShut}
use Rattle.theory_reaching.specs.Speaks.{speaks_to, bubbles_stray, somebody_answers}

-- of a client for a qualified one that is fresh at it or cone
abbrev pub MovedBetweenClients : Type 0
MovedBetweenClients = (lab : Lab) (H : List Full) (q : Full) (later : List Full) (n m : ℕ) (c d : ClientNode) (x : List ℕ) → IsTopology lab.topology
    → Grown lab (later ++ q ∷ H) → node_at lab.topology n ≡ Some (client c) → node_at lab.topology m ≡ Some (client d) → is_on lab H n c ≡ true
    → is_on lab H m d ≡ true → (is_fresh (now H) (known_by H n (address_at lab H m)) || has_cone (address_at lab H m)) ≡ true
    → speaks_to lab H c (address_at lab H n) (embedded (address_at lab H m)) ≡ false → IsSentNext lab H q n m (client c) x → AreFresh q later
    → IsShut m (client d) x later

-- of a client for a native host that is fresh at it, and trusted at its relay
abbrev pub MovedToNatives : Type 0
MovedToNatives = (lab : Lab) (H : List Full) (q : Full) (later : List Full) (n m : ℕ) (c : ClientNode) (h : NativeNode) (r : RelayNode) (x : List ℕ)
    → IsTopology lab.topology → Grown lab (later ++ q ∷ H) → node_at lab.topology n ≡ Some (client c) → node_at lab.topology m ≡ Some (native h)
    → relay_at lab.topology h.relay ≡ Some r → is_on lab H n c ≡ true → is_fresh (now H) (known_by H n h.six) ≡ true
    → is_trusted_at r.at (known_by H n h.six) ≡ true → speaks_to lab H c (address_at lab H n) r.at ≡ false → IsSentNext lab H q n m (client c) x
    → AreFresh q later → IsShut m (native h) x later

-- and where it is trusted at an endpoint at which neither a server nor a relay answers
abbrev pub GoneElsewhere : Type 0
GoneElsewhere = (lab : Lab) (H : List Full) (q : Full) (later : List Full) (n m : ℕ) (c : ClientNode) (h : NativeNode) (D : Ep) (x : List ℕ)
    → IsTopology lab.topology → Grown lab (later ++ q ∷ H) → node_at lab.topology n ≡ Some (client c) → node_at lab.topology m ≡ Some (native h)
    → is_on lab H n c ≡ true → is_fresh (now H) (known_by H n h.six) ≡ true → is_trusted_at D (known_by H n h.six) ≡ true
    → somebody_answers lab D ≡ false → IsSentNext lab H q n m (client c) x → AreFresh q later → IsShut m (native h) x later

-- and of one for a native host that isn't fresh, where the client doesn't speak to its own server, which its test goes to
abbrev pub MovedTests : Type 0
MovedTests = (lab : Lab) (H : List Full) (q : Full) (later : List Full) (n m : ℕ) (c : ClientNode) (h : NativeNode) (x : List ℕ)
    → IsTopology lab.topology → Grown lab (later ++ q ∷ H) → node_at lab.topology n ≡ Some (client c) → node_at lab.topology m ≡ Some (native h)
    → is_on lab H n c ≡ true → is_fresh (now H) (known_by H n h.six) ≡ false → speaks_to lab H c (address_at lab H n) (asks_at lab c) ≡ false
    → IsSentNext lab H q n m (client c) x → AreFresh q later → IsShut m (native h) x later

-- of a client for a qualified one that is neither fresh at it nor cone, for which its bubbles stray
abbrev pub MovedBubbles : Type 0
MovedBubbles = (lab : Lab) (H : List Full) (q : Full) (later : List Full) (n m : ℕ) (c d : ClientNode) (x : List ℕ) → IsTopology lab.topology
    → Grown lab (later ++ q ∷ H) → node_at lab.topology n ≡ Some (client c) → node_at lab.topology m ≡ Some (client d) → is_on lab H n c ≡ true
    → is_on lab H m d ≡ true → (is_fresh (now H) (known_by H n (address_at lab H m)) || has_cone (address_at lab H m)) ≡ false
    → bubbles_stray lab H c (address_at lab H n) (embedded (address_at lab H m)) (asks_at lab d) ≡ true → IsSentNext lab H q n m (client c) x
    → AreFresh q later → IsShut m (client d) x later
