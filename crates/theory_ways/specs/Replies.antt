-- Replies: what a client's datagram, on its way out, lets in on the way back, for as long as the client's NATs stay open.
use Rattle.std.specs.Prelude.{◌≡◌, ◌⊎◌, ℕ, true, false, List, [], ◌∷◌, ◌++◌, Some}
use Rattle.std.specs.List.{list_all, AllByRecursion}
use Rattle.td_base.specs.declared.endpoint.Ep.{Ep}
use Rattle.td_base.specs.Ep.{server_ep}
use Rattle.qualify.specs.declared.phase.Phase.TheVariants.{Cone}
use Rattle.topology.specs.declared.client_node.ClientNode.{ClientNode}
use Rattle.topology.specs.Rules.{IsTopology}
use Rattle.topology.specs.Topology.{client_at}
use Rattle.history.specs.Full.{udp, sent, Full}
use Rattle.legal.specs.Lab.{Lab}
use Rattle.legal.specs.Settings.{client_settings}
use Rattle.legal.specs.Past.{now, is_node}
use Rattle.legal.specs.Legal.{Grown}
use Rattle.legal.specs.Honest.{are_honest_for}
use Rattle.legal.specs.Routes.{IsLetIn, IsShutOut}
use Rattle.nat_kinds.specs.Kinds.{is_cone_kind}
use Rattle.theory_settled.specs.Clients.{standing, asks_at}
use Rattle.theory_ways.specs.Ways.{IsChained, nats_of, nat_of, is_all_cone}
use Rattle.theory_ways.specs.UndisturbedAlong.{IsUndisturbedAlong, IsKeptOpenAlong}

-- *reply that is let in*: what comes back after a client's one datagram, before it does more, is let in along its way,
-- or shut out by the outermost NAT that isn't cone.
-- a record of client n puts one datagram onto the wire, which leaves the client's way at `left`. In the records after it, the
-- latest of which comes first, the client does nothing
-- Premise: one datagram of a client: a record of its `node` `made` it, and the client is `idle` after it.
pub record SendsAndWaits (sends : Full) (waits : List Full) (n : ℕ) (left to : Ep) : Type 0 where
  pub node : sends.node ≡ Some n
  pub bytes : List ℕ
  pub made : sends.made ≡ sent (udp left to bytes) ∷ []
  pub idle : AllByRecursion (λ (r : Full). is_node n r.node ≡ false) waits

-- the outermost NAT of the way that isn't cone lets what comes from src in to nobody
pub record IsShutAlong (lab : Lab) (H : List Full) (src dst : Ep) (c : ClientNode) : Type 0 where
  pub inner : List ℕ
  pub nat : ℕ
  pub outer : List ℕ
  pub on_way : nats_of lab c ≡ inner ++ nat ∷ outer
  pub kind : is_cone_kind (nat_of lab nat).kind ≡ false
  pub beyond : list_all (λ (k : ℕ). is_cone_kind (nat_of lab k).kind) outer ≡ true
  pub shut : IsShutOut lab H (now H) src dst nat

-- what comes to that endpoint, after H
pub record LetsReplyIn (lab : Lab) (H : List Full) (n : ℕ) (c : ClientNode) (left to : Ep) : Type 0 where
  -- from whom the client sent to: it is let in
  -- | See `replies_are_let_in`.
  pub from_asked : IsLetIn lab H (now H) to left c
  -- from anybody, where each NAT is cone: so is this
  -- | See `replies_are_let_in`.
  pub from_any : is_all_cone lab c ≡ true → (src : Ep) → IsLetIn lab H (now H) src left c
  -- from the server's other address, where one isn't: it is shut out, while the client is in phase Cone and asked the server
  -- | See `replies_are_let_in`.
  pub from_other : to ≡ asks_at lab c → (standing lab H n c).phase ≡ Cone → is_all_cone lab c ≡ false
      → IsShutAlong lab H (server_ep (client_settings lab.topology c).secondary) left c

-- in a history that is honest for it, of each client that is undisturbed along its way, and of each one that doesn't try the cone
-- phase and whose NATs were kept open
abbrev pub EachReplyIsLetIn : Type 0
EachReplyIsLetIn = (lab : Lab) (H waits : List Full) (sends : Full) (n : ℕ) (c : ClientNode) (left to : Ep) → IsTopology lab.topology → IsChained lab
    → Grown lab (waits ++ sends ∷ H) → are_honest_for lab.topology c (waits ++ sends ∷ H) ≡ true → client_at lab.topology n ≡ Some c
    → IsUndisturbedAlong lab (waits ++ sends ∷ H) n c ⊎ ((c.cone_try ≡ false) × IsKeptOpenAlong lab (waits ++ sends ∷ H) n c)
    → SendsAndWaits sends waits n left to → LetsReplyIn lab (waits ++ sends ∷ H) n c left to
