-- Clients undisturbed along their ways: since a client's latest start none of its NATs lost anything of it, and each is kept
-- open to its server. A mapping lives as long as datagrams leave through it (RFC 4380, section 5.2.5).
use Rattle.std.specs.Prelude.{◌≡◌, ℕ, ◌==◌, ◌&&◌, ◌||◌, not, if◌then◌else◌, Bool, false, find, List, [], ◌∷◌, ◌++◌, Option, Some, None, unwrap_or, is_some}
use Rattle.std.specs.List.{list_any, list_all}
use Rattle.td_base.specs.declared.endpoint.Ep.{Ep}
use Rattle.td_base.specs.Ep.{same_ep}
use Rattle.nat_kinds.specs.declared.outgoing.Outward.{Outward}
use Rattle.nat_kinds.specs.History.{NatEntry, Out, Forget, Restart, counting}
use Rattle.topology.specs.declared.client_node.ClientNode.{ClientNode}
use Rattle.topology.specs.Chains.{Passing, outs_at}
use Rattle.history.specs.Full.{Full}
use Rattle.legal.specs.Lab.{Lab}
use Rattle.legal.specs.Past.{is_node, nat_history}
use Rattle.theory_settled.specs.Clients.{asks_at}
use Rattle.theory_verdicts.specs.Undisturbed.{is_young_out, starts, began_seen, was_lost, has_sent, was_answered}
use Rattle.theory_ways.specs.Ways.{nats_of, nat_of, OfEachOuter}

-- WHAT A NAT LET OUT OF CLIENT n, which is c, since its latest start

-- all of it, the latest first
abbrev pub let_out_of : ℕ → ℕ → List Full → List NatEntry
let_out_of n k [] = []
let_out_of n k (r ∷ H) = if starts n r then [] else (if is_node n r.node then outs_at k r.passed ++ let_out_of n k H else let_out_of n k H)

-- a datagram that went to this endpoint
abbrev pub went_to : Ep → NatEntry → Bool
went_to dst (Out e) = same_ep e.dst dst
went_to dst (Forget who) = false
went_to dst Restart = false

-- the client's latest datagram to its server that NAT k let out is younger than the NAT's idle time at m
abbrev pub is_open_through : Lab → List Full → ℕ → ℕ → ClientNode → ℕ → Bool
is_open_through lab H m n c k = is_young_out (nat_of lab k).idle m (find (went_to (asks_at lab c)) (let_out_of n k H))

-- *kept open along its way*: at each NAT its latest datagram to its server since its start is younger than that NAT's
-- idle time, before the record's own sends.
-- so it is at each NAT of the way
abbrev pub is_open_along : Lab → List Full → ℕ → ℕ → ClientNode → Bool
is_open_along lab H m n c = list_all (is_open_through lab H m n c) (nats_of lab c)

-- the endpoint that the earliest of these datagrams came to NAT k from, if one did
abbrev pub first_from : ℕ → List Passing → Option Ep
first_from k [] = None
first_from k (p ∷ ps) = if p.nat == k then Some (unwrap_or (first_from k ps) p.datagram.inside) else first_from k ps

-- at m a datagram from this endpoint counts at NAT k
abbrev pub knows_endpoint : Lab → List Full → ℕ → ℕ → Option Ep → Bool
knows_endpoint lab H k m None = false
knows_endpoint lab H k m (Some inside) = list_any (λ (e : Outward). same_ep e.inside inside) (counting (nat_of lab k).idle m (nat_history lab k H))

-- SINCE ITS LATEST START

-- NAT k let a datagram of it out
abbrev pub has_passed : List Full → ℕ → ℕ → Bool
has_passed [] n k = false
has_passed (r ∷ H) n k = if starts n r then false else is_node n r.node && is_some (first_from k r.passed) || has_passed H n k

-- the first one came to NAT k from an endpoint of which another one counted there
abbrev pub passed_known : Lab → List Full → ℕ → ℕ → Bool
passed_known lab [] n k = false
passed_known lab (r ∷ H) n k = if starts n r then false
    else (not (has_passed H n k) && is_node n r.node && knows_endpoint lab H k r.moment (first_from k r.passed)) || passed_known lab H n k

-- NAT k was started anew
abbrev pub was_restarted : List Full → ℕ → ℕ → Bool
was_restarted [] n k = false
was_restarted (r ∷ H) n k = if starts n r then false else starts k r || was_restarted H n k

-- at some record before which it had begun, and before the record's own sends, the client's latest datagram to its server was
-- too old at some NAT of the way
abbrev pub was_shut_along : (has_begun : List Full → Bool) → Lab → List Full → ℕ → ClientNode → Bool
was_shut_along has_begun lab [] n c = false
was_shut_along has_begun lab (r ∷ H) n c = if starts n r then false
    else (has_begun H && not (is_open_along lab H r.moment n c)) || was_shut_along has_begun lab H n c

-- no NAT of the way was started anew, and none forgot the client
-- Premise: a way that lasts: its `next` NAT wasn't restarted and didn't forget the client, and no `outer` one was
-- restarted.
pub record IsKeptAlong (lab : Lab) (H : List Full) (n : ℕ) (c : ClientNode) : Type 0 where
  pub next : was_lost lab H n c ≡ false
  pub outer : OfEachOuter lab c (λ (k : ℕ). was_restarted H n k ≡ false)

-- *undisturbed along its way*: none of its NATs was restarted, the next knew and forgot nothing of it, a further one
-- knew not whence its first came; all were kept open.
-- the client began behind a NAT that knew nothing of it, and its first datagram came to each further one from an endpoint of
-- which that knew nothing. None lost anything, and from the first datagram on each was kept open to the client's server
-- Premise: the same along a way: `began`, of the NAT next to it; `lasts`, of all NATs, of which none was restarted and
-- the next one didn't forget it; `server_open`, of each by its own idle time; and its first datagram came to each
-- further NAT from an endpoint that was `new` there.
pub record IsUndisturbedAlong (lab : Lab) (H : List Full) (n : ℕ) (c : ClientNode) : Type 0 where
  pub began : began_seen lab H n c ≡ false
  pub lasts : IsKeptAlong lab H n c
  pub server_open : was_shut_along (λ (before : List Full). has_sent lab before n c) lab H n c ≡ false
  pub new : OfEachOuter lab c (λ (k : ℕ). passed_known lab H n k ≡ false)

-- no NAT lost anything of the client, and from the first datagram or the first answer on, whichever was earlier, each was kept
-- open to the client's server. What they knew before doesn't matter
-- Premise: without the cone phase along a way: `lasts` and `server_open`, from the first datagram or the first answer
-- on, whichever was earlier.
pub record IsKeptOpenAlong (lab : Lab) (H : List Full) (n : ℕ) (c : ClientNode) : Type 0 where
  pub lasts : IsKeptAlong lab H n c
  pub server_open : was_shut_along (λ (before : List Full). has_sent lab before n c || was_answered before n) lab H n c ≡ false
