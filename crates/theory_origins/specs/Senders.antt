-- What servers and relays send: an advertisement tells where it goes, and nobody's packet goes on as its own.
use Rattle.std.specs.Prelude.{◌≡◌, ◌∷◌, ℕ, true, is_some, List, Contains, Some}
use Rattle.std.specs.List.{AllByRecursion}
use Rattle.td_base.specs.declared.endpoint.Ep.{Ep}
use Rattle.teredo_addr.specs.Teredo.{is_teredo, embedded}
use Rattle.indications.specs.Leads.{origin_in}
use Rattle.bubble.specs.Reads.{value_in}
use Rattle.teredo_node.specs.Step.{Send}
use Rattle.teredo_node.specs.Journal.{Entry}
use Rattle.topology.specs.declared.client_node.ClientNode.{ClientNode}
use Rattle.topology.specs.declared.node.Node.TheVariants.{Client as client}
use Rattle.topology.specs.Rules.{IsTopology}
use Rattle.topology.specs.Topology.{client_at}
use Rattle.history.specs.Full.{Item, udp, six, Full, wire, items_of}
use Rattle.legal.specs.Lab.{Lab}
use Rattle.legal.specs.Legal.{Grown}
use Rattle.legal.specs.Actors.{IsActOf}
use Rattle.legal.specs.Makers.{Forges, Leaves}
use Rattle.legal.specs.Honest.{is_its_server, are_honest_for}

-- a datagram from a client's server that has an authentication has, as its origin, the endpoint that it goes to
abbrev pub EntryTellsWhereTo : Lab → ClientNode → Item → Type 0
EntryTellsWhereTo lab c (udp src dst bytes) = is_its_server lab.topology c src ≡ true → is_some (value_in bytes).lead.auth ≡ true
    → origin_in (value_in bytes).lead ≡ Some dst
EntryTellsWhereTo lab c (six to bytes) = Unit {0}

-- in a history that is honest for the client each does
abbrev pub EachEntryTellsWhereTo : Type 0
EachEntryTellsWhereTo = (lab : Lab) (H : List Full) (n : ℕ) (c : ClientNode) → IsTopology lab.topology → Grown lab H
    → client_at lab.topology n ≡ Some c → are_honest_for lab.topology c H ≡ true → AllByRecursion (EntryTellsWhereTo lab c) (wire H)

-- who made a datagram that comes from the endpoint that its Teredo source embeds: nobody, or a client past its NATs
pub data IsForgedOrClients (lab : Lab) (H : List Full) (r : Full) (src dst : Ep) (bytes : List ℕ) : Type 0 where
  forged : Forges H src dst bytes r.asked → IsForgedOrClients lab H r src dst bytes
  sent_by : (n : ℕ) (c : ClientNode) (e : Entry) (s : Send) → IsActOf lab H r n (client c) e → Contains e.step.sends s
      → Leaves lab H r.moment c s.to src → dst ≡ s.to → bytes ≡ s.bytes → IsForgedOrClients lab H r src dst bytes

-- a datagram from the endpoint that its Teredo source embeds is nobody's, or a client's
abbrev pub ComesFromClient : Lab → List Full → Full → Item → Type 0
ComesFromClient lab H r (udp src dst bytes) = is_teredo (value_in bytes).packet.src ≡ true → src ≡ embedded (value_in bytes).packet.src
    → IsForgedOrClients lab H r src dst bytes
ComesFromClient lab H r (six to bytes) = Unit {0}

-- no server's and no relay's datagram does
abbrev pub EachComesFromClient : Type 0
EachComesFromClient = (lab : Lab) (H : List Full) (r : Full) → IsTopology lab.topology → Grown lab (r ∷ H)
    → AllByRecursion (ComesFromClient lab H r) (items_of r)
