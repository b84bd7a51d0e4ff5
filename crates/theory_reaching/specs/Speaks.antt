-- What a client's NATs would do now, with nothing sent: from where a datagram of the client would leave, and whose datagrams would come
-- in to it, also once it had sent one.
use Rattle.std.specs.Prelude.{ℕ, ◌&&◌, ◌||◌, not, Bool, true, false, if◌then◌else◌, List, [], Result, Ok, Err}
use Rattle.std.specs.List.{list_any}
use Rattle.td_base.specs.Ep.{same_ep}
use Rattle.td_base.specs.declared.endpoint.Ep.{Ep}
use Rattle.td_base.specs.declared.ipv6.Ip6.{Ip6}
use Rattle.teredo_addr.specs.Teredo.{embedded}
use Rattle.nat_kinds.specs.declared.refusal.NatRefusal.{NatRefusal}
use Rattle.topology.specs.declared.client_node.ClientNode.{ClientNode}
use Rattle.topology.specs.declared.node.Node.{Node}
use Rattle.topology.specs.declared.node.Node.TheVariants.{Server as server, Nat as nat, Relay as relay}
use Rattle.topology.specs.Topology.{is_at, first_passing, nodes}
use Rattle.topology.specs.Chains.{is_inner, NatPasts, Crossing, crossing, after_passing, chain_in}
use Rattle.history.specs.Full.{Full}
use Rattle.legal.specs.Lab.{Lab}
use Rattle.legal.specs.Past.{now, nat_pasts}
use Rattle.legal.specs.Emit.{Route, reaches, astray, reach, route_in}
use Rattle.theory_ways.specs.Ways.{nats_of, has_symmetric}
use Rattle.theory_reaching.specs.Conditions.{ends_at, is_led_to}

-- OUT

-- what becomes of a datagram that the client sends there now, on its way out
abbrev pub way_to : Lab → List Full → ClientNode → Ep → Crossing
way_to lab H c dst = crossing lab.topology (nat_pasts lab H) (now H) dst (nats_of lab c) c.inside []

-- does the datagram leave from this endpoint?
abbrev pub is_from : Ep → Result Ep NatRefusal → Bool
is_from at (Ok src) = same_ep src at
is_from at (Err why) = false

-- client c with the address own speaks to an endpoint: what it sends there is refused by no NAT of its way, and leaves the last one from the
-- endpoint that the address embeds
unfoldable pub speaks_to : Lab → List Full → ClientNode → (own : Ip6) → Ep → Bool
speaks_to lab H c own dst = is_from (embedded own) (way_to lab H c dst).leaves

-- is a datagram let out, from another endpoint than this one?
abbrev pub is_elsewhere : Ep → Result Ep NatRefusal → Bool
is_elsewhere at (Ok src) = not (same_ep src at)
is_elsewhere at (Err why) = false

-- *strays*: what client c with the address own sends to an endpoint is let out by each NAT of its way, from another endpoint than the
-- address embeds
unfoldable pub strays_to : Lab → List Full → ClientNode → (own : Ip6) → Ep → Bool
strays_to lab H c own dst = is_elsewhere (embedded own) (way_to lab H c dst).leaves

-- so do its bubbles for a client, whose endpoint and whose server these are: those to the client itself stray, those to the server leave
-- from elsewhere or not at all, and whichever goes first, no NAT of the way being symmetric
unfoldable pub bubbles_stray : Lab → List Full → ClientNode → (own : Ip6) → (there asked : Ep) → Bool
bubbles_stray lab H c own there asked =
    strays_to lab H c own there && (not (has_symmetric lab c) && not (speaks_to lab H c own asked))

-- to each of two: one after the other, so that no NAT of the way may be symmetric where they differ
unfoldable pub speaks_to_both : Lab → List Full → ClientNode → (own : Ip6) → (one other : Ep) → Bool
speaks_to_both lab H c own one other =
    speaks_to lab H c own one && (speaks_to lab H c own other && (same_ep one other || not (has_symmetric lab c)))

-- IN

-- the endpoint is heard at client n with the address own: what comes from there to the client's endpoint is let in to the client, past
-- the NAT whose address this is
abbrev pub is_heard_at : Lab → List Full → ℕ → (own : Ip6) → Ep → Bool
is_heard_at lab H n own src = is_led_to lab H src (embedded own) n

-- what each NAT's history would be, once the client had sent to an endpoint: with what was let out of that
abbrev pub pasts_once_sent : Lab → List Full → ClientNode → Ep → NatPasts
pasts_once_sent lab H c dst = after_passing (way_to lab H c dst).passed (nat_pasts lab H)

-- where a datagram from src to dst goes after these
abbrev pub from_outside_past : Lab → NatPasts → ℕ → Ep → Ep → Route → Route
from_outside_past lab h m src dst (reaches k (nat a)) =
    if is_inner lab.chain k then astray else route_in lab.topology (chain_in lab.topology lab.chain h m k src dst.port)
from_outside_past lab h m src dst r = r

-- the route of a datagram, by the histories of the NATs
abbrev pub route_past : Lab → NatPasts → ℕ → Ep → Ep → Route
route_past lab h m src dst = from_outside_past lab h m src dst (reach lab.topology (first_passing (is_at dst) lab.topology))

-- it is heard there once the client sent to another one
unfoldable pub is_heard_once_sent : Lab → List Full → ℕ → ClientNode → (own : Ip6) → (src to : Ep) → Bool
is_heard_once_sent lab H n c own src to = ends_at n (route_past lab (pasts_once_sent lab H c to) (now H) src (embedded own))

-- WHOSE AN ENDPOINT IS

-- a server or a relay has it
abbrev pub answers_at : Ep → Node → Bool
answers_at at (server a) = is_at at (server a)
answers_at at (relay a) = is_at at (relay a)
answers_at at _ = false

-- some node of these does
unfoldable pub somebody_answers : Lab → Ep → Bool
somebody_answers lab at = list_any (answers_at at) (nodes lab.topology)

-- does the route end at a server?
abbrev pub is_server_of : Route → Bool
is_server_of (reaches k (server a)) = true
is_server_of _ = false

-- a server answers there
unfoldable pub is_of_server : Lab → Ep → Bool
is_of_server lab at = is_server_of (reach lab.topology (first_passing (is_at at) lab.topology))
