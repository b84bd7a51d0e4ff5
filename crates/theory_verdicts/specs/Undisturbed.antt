-- Undisturbed clients: since a client's latest start its NAT lost nothing of it, and is kept open to its server. A mapping
-- lives as long as datagrams leave through it (RFC 4380, section 5.2.5: a client refreshes it).
use Rattle.std.specs.Prelude.{◌≡◌, ℕ, ◌&&◌, ◌||◌, not, if◌then◌else◌, Bool, true, false, find, List, [], ◌∷◌, Option, Some, None}
use Rattle.std.specs.List.{list_any}
use Rattle.td_base.specs.declared.endpoint.Ep.{Ep}
use Rattle.td_base.specs.Ep.{same_ep}
use Rattle.nat_kinds.specs.declared.outgoing.Outward.{Outward}
use Rattle.nat_kinds.specs.History.{NatEntry, Out, Forget, Restart, counting, is_young}
use Rattle.teredo_node.specs.Journal.{Entry}
use Rattle.qualify.specs.Turns.{Turn, is_answered, turn_of}
use Rattle.topology.specs.declared.client_node.ClientNode.{ClientNode}
use Rattle.history.specs.Full.{Full}
use Rattle.legal.specs.Lab.{Lab}
use Rattle.legal.specs.Past.{now, is_node, is_restart, nat_entries}
use Rattle.theory_settled.specs.Clients.{nat_behind, past_of_nat, asks_at}

-- WHAT A NAT'S HISTORY SAYS

-- a datagram left an inside endpoint
abbrev pub is_out_of : Ep → NatEntry → Bool
is_out_of inside (Out e) = same_ep e.inside inside
is_out_of inside (Forget who) = false
is_out_of inside Restart = false

-- and went to this endpoint
abbrev pub is_out_to : Ep → Ep → NatEntry → Bool
is_out_to inside dst (Out e) = same_ep e.inside inside && same_ep e.dst dst
is_out_to inside dst (Forget who) = false
is_out_to inside dst Restart = false

-- all was lost, or the inside endpoint was forgotten
abbrev pub is_loss_of : Ep → NatEntry → Bool
is_loss_of inside (Out e) = false
is_loss_of inside (Forget who) = same_ep who inside
is_loss_of inside Restart = true

-- there is a datagram, less than idle old at m
abbrev pub is_young_out : ℕ → ℕ → Option NatEntry → Bool
is_young_out idle m (Some (Out e)) = is_young idle m e
is_young_out idle m (Some (Forget who)) = false
is_young_out idle m (Some Restart) = false
is_young_out idle m None = false

-- some datagram of the client counts
abbrev pub is_seen : Lab → List Full → ClientNode → Bool
is_seen lab H c = list_any (λ (e : Outward). same_ep e.inside c.inside) (counting (nat_behind lab c).idle (now H) (past_of_nat lab H c))

-- the client's latest datagram to its server is younger than the idle time at m
abbrev pub is_open_at : Lab → List Full → ℕ → ClientNode → Bool
is_open_at lab H m c = is_young_out (nat_behind lab c).idle m (find (is_out_to c.inside (asks_at lab c)) (past_of_nat lab H c))

-- SINCE THE LATEST START OF CLIENT n, which is c

-- the record starts node n anew
abbrev pub starts : ℕ → Full → Bool
starts n r = is_node n r.node && is_restart r.act

-- at that start some datagram of the client counted
abbrev pub began_seen : Lab → List Full → ℕ → ClientNode → Bool
began_seen lab [] n c = false
began_seen lab (r ∷ H) n c = if starts n r then is_seen lab (r ∷ H) c else began_seen lab H n c

-- since then the NAT was restarted, or forgot the client
abbrev pub was_lost : Lab → List Full → ℕ → ClientNode → Bool
was_lost lab [] n c = false
was_lost lab (r ∷ H) n c = if starts n r then false else list_any (is_loss_of c.inside) (nat_entries lab c.nat r) || was_lost lab H n c

-- the NAT let a datagram of the client out
abbrev pub has_sent : Lab → List Full → ℕ → ClientNode → Bool
has_sent lab [] n c = false
has_sent lab (r ∷ H) n c = if starts n r then false else list_any (is_out_of c.inside) (nat_entries lab c.nat r) || has_sent lab H n c

-- is it the first answer?
abbrev pub is_first_answer : Turn → Bool
is_first_answer is_answered = true
is_first_answer _ = false

-- the entry, if there is one, is of the first answer to a client
abbrev pub answers : Option Entry → Bool
answers None = false
answers (Some e) = is_first_answer (turn_of e)

-- the first answer came
abbrev pub was_answered : List Full → ℕ → Bool
was_answered [] n = false
was_answered (r ∷ H) n = if starts n r then false else is_node n r.node && answers r.entry || was_answered H n

-- *kept open*: at each record the client's latest datagram to its server is younger than the NAT's idle time, before
-- the record's own sends.
-- at some record before which it had begun, and before the record's own sends, the client's latest datagram to its server
-- was too old
abbrev pub was_shut : (has_begun : List Full → Bool) → Lab → List Full → ℕ → ClientNode → Bool
was_shut has_begun lab [] n c = false
was_shut has_begun lab (r ∷ H) n c = if starts n r then false else has_begun H && not (is_open_at lab H r.moment c) || was_shut has_begun lab H n c

-- *undisturbed*: a client whose NAT knew nothing of it at its start, wasn't restarted and didn't forget it since, and
-- was kept open to its server from the first datagram on.
-- the client began behind a NAT that knew nothing of it. Since then this lost nothing, and from the first datagram on it was
-- kept open to the client's server
-- Premise: a client that nothing disturbed since its latest start: it `began` behind a NAT at which nothing of it
-- counted; what it began lasts (`lasts`): that NAT wasn't restarted, and wasn't told to forget it; and from its first
-- datagram on its NAT stayed open to its server, `server_open`: before the sends of each record its latest datagram
-- there is younger than the NAT's idle time.
pub record IsUndisturbed (lab : Lab) (H : List Full) (n : ℕ) (c : ClientNode) : Type 0 where
  pub began : began_seen lab H n c ≡ false
  pub lasts : was_lost lab H n c ≡ false
  pub server_open : was_shut (λ (before : List Full). has_sent lab before n c) lab H n c ≡ false

-- since the client's start its NAT lost nothing of it, and from the first datagram or the first answer on, whichever was
-- earlier, it was kept open to the client's server. What the NAT knew before doesn't matter
-- Premise: the same for a client without the cone phase, whatever its NAT knew before: it `lasts`, as above, and
-- `server_open` is asked from the first datagram on, or from the first answer on where that came earlier.
pub record IsKeptOpen (lab : Lab) (H : List Full) (n : ℕ) (c : ClientNode) : Type 0 where
  pub lasts : was_lost lab H n c ≡ false
  pub server_open : was_shut (λ (before : List Full). has_sent lab before n c || was_answered before n) lab H n c ≡ false
