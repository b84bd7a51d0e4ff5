-- The datagram that brought a packet to a client's host.
use Rattle.std.specs.Prelude.{◌≡◌, ◌∷◌, ℕ, true, false, List, drop, slice_get, Some}
use Rattle.std.specs.List.{AllByRecursion}
use Rattle.td_base.specs.declared.endpoint.Ep.{Ep}
use Rattle.ipv6_packet.specs.Reads.{fields_in}
use Rattle.teredo_addr.specs.Teredo.{is_teredo, embedded}
use Rattle.bubble.specs.Bubbles.{is_bubble}
use Rattle.bubble.specs.Reads.{value_in}
use Rattle.topology.specs.declared.client_node.ClientNode.{ClientNode}
use Rattle.topology.specs.Topology.{client_at}
use Rattle.history.specs.Full.{udp, Full, wire}
use Rattle.legal.specs.Lab.{Lab}
use Rattle.legal.specs.Past.{now}
use Rattle.legal.specs.Legal.{Grown}
use Rattle.legal.specs.Routes.{IsLetIn}

-- the record hands x to the host of client n
-- Premise: a record of a client: the `client` is its `node`, and its host is handed the `packet`.
pub record HandsToHost (lab : Lab) (r : Full) (n : ℕ) (c : ClientNode) (x : List ℕ) : Type 0 where
  pub node : r.node ≡ Some n
  pub client : client_at lab.topology n ≡ Some c
  pub packet : r.handed ≡ Some x

-- *brought*: a packet that a host is handed: by the datagram that ends in it.
-- an entry of the wire, which the NATs let in to the client, ends in x, which is no bubble; with a Teredo source it came
-- from the endpoint that this embeds
pub record IsBrought (lab : Lab) (H : List Full) (r : Full) (c : ClientNode) (x : List ℕ) : Type 0 where
  pub number : ℕ
  pub src : Ep
  pub dst : Ep
  pub bytes : List ℕ
  pub delivered : r.delivered ≡ Some number
  pub datagram : slice_get (wire H) number ≡ Some (udp src dst bytes)
  pub let_in : IsLetIn lab H (now H) src dst c
  pub whole : x ≡ drop (value_in bytes).lead.at bytes
  pub packet : (value_in bytes).packet ≡ fields_in x
  pub no_bubble : is_bubble (fields_in x) ≡ false
  pub embeds : is_teredo (fields_in x).src ≡ true → src ≡ embedded (fields_in x).src

-- each packet that is handed over at once was brought so, whatever strangers do
abbrev pub EachIsBrought : Type 0
EachIsBrought = (lab : Lab) (H : List Full) (r : Full) (n : ℕ) (c : ClientNode) (x : List ℕ) → Grown lab (r ∷ H) → HandsToHost lab r n c x
    → IsBrought lab H r c x

-- what a client's host is handed late is from outside Teredo
abbrev pub EachLateHandedIsForeign : Type 0
EachLateHandedIsForeign = (lab : Lab) (H : List Full) (r : Full) (n : ℕ) (c : ClientNode) → Grown lab (r ∷ H) → r.node ≡ Some n
    → client_at lab.topology n ≡ Some c → AllByRecursion (λ x. is_teredo (fields_in x).src ≡ false) r.late
