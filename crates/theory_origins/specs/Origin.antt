-- Whence packets come that are handed to a client's host.
use Rattle.std.specs.Prelude.{◌≡◌, ◌∷◌, ◌++◌, ℕ, true, List, slice_get, Some}
use Rattle.td_base.specs.declared.endpoint.Ep.{Ep}
use Rattle.td_base.specs.declared.ipv6.Ip6.{Ip6}
use Rattle.ipv6_packet.specs.Reads.{fields_in}
use Rattle.teredo_addr.specs.Teredo.{is_teredo, embedded}
use Rattle.teredo_node.specs.Journal.{given, Entry}
use Rattle.qualify.specs.Qualification.{qualification}
use Rattle.topology.specs.declared.client_node.ClientNode.{ClientNode}
use Rattle.topology.specs.Rules.{IsTopology}
use Rattle.topology.specs.Topology.{client_at}
use Rattle.topology.specs.Chains.{nat_set_up}
use Rattle.events.specs.declared.event.Event.{Event}
use Rattle.events.specs.declared.event.Event.TheVariants as event
use Rattle.history.specs.Full.{udp, Full, wire}
use Rattle.legal.specs.Lab.{Lab}
use Rattle.legal.specs.Settings.{client_settings}
use Rattle.legal.specs.Past.{journal}
use Rattle.legal.specs.Legal.{Grown}
use Rattle.legal.specs.Laws.{Makes}
use Rattle.theory_origins.specs.Sources.{outermost}
use Rattle.theory_origins.specs.Handed.{HandsToHost}

-- the event puts a datagram onto the wire from this endpoint
abbrev pub PutsFrom : Event → Ep → Type 0
PutsFrom (event.Stranger src dst bytes) from = src ≡ from
PutsFrom (event.Copy number src dst) from = src ≡ from
PutsFrom _ from = ⊥

-- in one of these records the host of client n handed in x, while the client's address was p
pub record HandedIn (lab : Lab) (H : List Full) (n : ℕ) (c : ClientNode) (p : Ip6) (x : List ℕ) : Type 0 where
  pub later : List Full
  pub record_of : Full
  pub earlier : List Full
  pub split : H ≡ later ++ record_of ∷ earlier
  pub node : record_of.node ≡ Some n
  pub entry : Entry
  pub did : record_of.entry ≡ Some entry
  pub packet : entry.input ≡ given x
  pub address : (qualification (client_settings lab.topology c) (journal n earlier)).address ≡ Some p

-- *origin of a packet*: the datagram that brought it, and the record that made this: a named event's, or that of a
-- client whose host had handed the packet in.
-- the datagram in entry number k of the wire, and the record that made it: a stranger's or a copy from the endpoint that p
-- embeds; or that of a client whose host had handed in x while its address was p, and it left from the endpoint that p
-- embeds, at the address of the outermost of the client's NATs
pub data HasOrigin (lab : Lab) (H : List Full) (k : ℕ) (p : Ip6) (x : List ℕ) : Type 0 where
  put : (later earlier : List Full) (maker : Full) → Makes H k later maker earlier → PutsFrom maker.asked (embedded p) → HasOrigin lab H k p x
  sent_by : (later earlier : List Full) (maker : Full) → Makes H k later maker earlier → (n : ℕ) (c : ClientNode)
      → client_at lab.topology n ≡ Some c → maker.node ≡ Some n
      → (dst : Ep) (bytes : List ℕ) → slice_get (wire H) k ≡ Some (udp (embedded p) dst bytes)
      → (embedded p).ip ≡ (nat_set_up lab.topology (outermost lab c)).external
      → HandedIn lab (maker ∷ earlier) n c p x → HasOrigin lab H k p x

-- each packet with a Teredo source that a client's host is handed has its origin where the source says, whatever strangers do
abbrev pub EachHasOrigin : Type 0
EachHasOrigin = (lab : Lab) (H : List Full) (r : Full) (n : ℕ) (c : ClientNode) (x : List ℕ) → IsTopology lab.topology → Grown lab (r ∷ H)
    → HandsToHost lab r n c x → is_teredo (fields_in x).src ≡ true → (k : ℕ) → r.delivered ≡ Some k → HasOrigin lab H k (fields_in x).src x
