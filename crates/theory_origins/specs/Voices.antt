-- Who speaks for a server: a datagram from one of its endpoints is its own, or a named event put it there.
use Rattle.std.specs.Prelude.{◌≡◌, ◌∷◌, ℕ, Bool, true, false, List, Contains, Some}
use Rattle.std.specs.List.{AllByRecursion}
use Rattle.teredo_node.specs.Step.{Send}
use Rattle.teredo_node.specs.Journal.{Entry}
use Rattle.topology.specs.declared.server_node.ServerNode.{ServerNode}
use Rattle.topology.specs.declared.node.Node.TheVariants.{Server as server}
use Rattle.topology.specs.Rules.{IsTopology}
use Rattle.topology.specs.Topology.{node_at, is_at, own_ep}
use Rattle.events.specs.declared.event.Event.{Event}
use Rattle.events.specs.declared.event.Event.TheVariants as event
use Rattle.history.specs.Full.{Item, udp, six, Full, items_of}
use Rattle.legal.specs.Lab.{Lab}
use Rattle.legal.specs.Legal.{Grown}
use Rattle.legal.specs.Actors.{IsActOf}

-- *speaks for a server*: a `stranger` or a `copy` whose source is an endpoint of the server.
-- the event puts a datagram onto the wire that says that it comes from an endpoint of the server
abbrev pub speaks_for : ServerNode → Event → Bool
speaks_for a (event.Stranger src dst bytes) = is_at src (server a)
speaks_for a (event.Copy number src dst) = is_at src (server a)
speaks_for a _ = false

-- the entry comes from there
abbrev pub is_sent_by : ServerNode → Item → Bool
is_sent_by a (udp src dst bytes) = is_at src (server a)
is_sent_by a (six relay bytes) = false

-- the record is of server n, and the entry one of its sends
pub data IsOwnSend (lab : Lab) (H : List Full) (r : Full) (n : ℕ) (a : ServerNode) (x : Item) : Type 0 where
  own_send : (e : Entry) (s : Send) → IsActOf lab H r n (server a) e → Contains e.step.sends s → x ≡ udp (own_ep (server a) s.side) s.to s.bytes
      → IsOwnSend lab H r n a x

-- a datagram from an endpoint of the server is one of its sends
abbrev pub IsOwnIfSent : Lab → List Full → Full → ℕ → ServerNode → Item → Type 0
IsOwnIfSent lab H r n a x = is_sent_by a x ≡ true → IsOwnSend lab H r n a x

-- each from there is, where the record's event doesn't speak for the server
abbrev pub EachServerHasOwnVoice : Type 0
EachServerHasOwnVoice = (lab : Lab) (H : List Full) (r : Full) (n : ℕ) (a : ServerNode) → IsTopology lab.topology → Grown lab (r ∷ H)
    → node_at lab.topology n ≡ Some (server a) → speaks_for a r.asked ≡ false → AllByRecursion (IsOwnIfSent lab H r n a) (items_of r)
