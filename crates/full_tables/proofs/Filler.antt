-- A client whose host hands in packets for these addresses one after the other, and what is so after some of them.
use Rattle.full_tables.proofs.Words.{ClientNode, Draws, Event, Full, GoesOn, Grown, Ip6, IsIp6, Lab, List, None, PEERS_MAX, Some, TopologyState, [], acts, armed, client, client_settings, false, flat_lab, given, is_qualified, journal, mentions, nat_history, nat_set_up, no_ep, node_at, now, numbered, own_address, place, qualification, same_ip, server_in, true, wire, ℕ, ◌<◌, ◌≡◌}
use Rattle.events.specs.declared.event.Event.TheVariants as event
use Rattle.events.specs.declared.target.Target.TheVariants as target
use Rattle.events.specs.declared.verb.Verb.TheVariants as verb
use Rattle.legal.specs.Next.{plain}
use Rattle.full_tables.proofs.PeerAddresses.{at_nat, peer, first_peers}
use Rattle.full_tables.proofs.ManyPeers.{ListsThese}
use Rattle.full_tables.proofs.OnePacket.{packet}

-- client n of a laboratory, which is c, with the address own
pub record Filler : Type 0 where
  pub draws : Draws
  pub topology : TopologyState
  pub n : ℕ
  pub c : ClientNode
  pub own : Ip6

abbrev pub lab_with : Filler → Lab
lab_with f = flat_lab f.draws f.topology

-- its NAT is at 198.51.100.1, and its address names another server
pub record IsFiller (f : Filler) : Type 0 where
  pub there : node_at f.topology f.n ≡ Some (client f.c)
  pub external : (nat_set_up f.topology f.c.nat).external ≡ at_nat
  pub made : IsIp6 f.own
  pub elsewhere : same_ip at_nat (server_in f.own) ≡ false

-- client n has the address after a history
pub record IsAt (f : Filler) (H : List Full) : Type 0 where
  pub qualified : is_qualified (qualification (client_settings f.topology f.c) (journal f.n H)).phase ≡ true
  pub address : own_address (qualification (client_settings f.topology f.c) (journal f.n H)) ≡ f.own

-- after H0 the host has handed in packets for the first k of these addresses, and no more happened
pub record IsFilled (f : Filler) (H0 H : List Full) (k : ℕ) : Type 0 where
  pub grown : Grown (lab_with f) H
  pub over : (e : Event) → GoesOn H e
  pub moment : now H ≡ now H0
  pub wire : wire H ≡ wire H0
  pub armed : armed H ≡ None
  pub journals : (i : ℕ) → (f.n ≡ i → ⊥) → journal i H ≡ journal i H0
  pub nats : (i : ℕ) → nat_history (lab_with f) i H ≡ nat_history (lab_with f) i H0
  pub standing : qualification (client_settings f.topology f.c) (journal f.n H) ≡ qualification (client_settings f.topology f.c) (journal f.n H0)
  pub lists : ListsThese (mentions (journal f.n H).entries) (now H0) (first_peers k)

-- THE NEXT PACKET

-- the event
abbrev pub event_to : Filler → ℕ → Event
event_to f k = event.Host f.n (target.At (peer k)) []

-- and its record
abbrev pub record_to : Filler → List Full → ℕ → Full
record_to f H k = acts (lab_with f) H (numbered (place H) (event_to f k)) (plain verb.Host) None (now H) f.n no_ep (given (packet f.own k)) (client f.c)

-- a client, the history in which it gets its address, one after it, and the number of the next packet
pub record Stage : Type 0 where
  pub f : Filler
  pub start : List Full
  pub H : List Full
  pub k : ℕ

pub record IsStage (z : Stage) : Type 0 where
  pub filler : IsFiller z.f
  pub here : IsAt z.f z.start
  pub filled : IsFilled z.f z.start z.H z.k
  pub few : z.k < PEERS_MAX
