-- What a link tells, and how each of its calls moves that.
use Rattle.std.specs.Prelude.{◌≡◌, ◌≤◌, ℕ, Bool, ⊤, List, take, drop, map, slice_index_or, Option, Some, None}
use Rattle.td_base.specs.declared.side.Side.{Side}
use Rattle.td_base.specs.declared.endpoint.Ep.{Ep}
use Rattle.td_base.specs.declared.ipv4.Ip4.{Ip4}
use Rattle.td_base.specs.declared.side.Side.TheVariants.{Primary}
use Rattle.td_outside.specs.declared.link.Place.{Place}
use Rattle.td_outside.specs.declared.link.Place.TheVariants.{Both, Client}
use Rattle.td_outside.specs.declared.link.Arrival.{Arrival}
use Rattle.td_outside.specs.declared.link.Arrival.TheVariants.{Got, Idle}
use Rattle.td_base.specs.declared.datagram.TheConstants.{DATAGRAM_MAX}
use Rattle.td_outside.specs.Moves.{Moves, Stays, Gains}

-- what came: a datagram, of which a link keeps the first DATAGRAM_MAX bytes, or nothing
pub data Came : Type 0 where
  Datagram : (side : Side) (from : Ep) (bytes : List ℕ) → Came
  Nothing : Came

-- an attempt to send one datagram, and whether the answer was Ok
pub record Attempt : Type 0 where
  pub side : Side
  pub to : Ep
  pub bytes : List ℕ
  pub sent : Bool

-- one call to send, with the answer that it got
abbrev pub attempt : Side → Ep → List ℕ → Bool → Attempt
attempt side to bytes sent = record { side = side; to = to; bytes = bytes; sent = sent }

-- the lists that a link tells: what is still to come, what was taken, and what was to be sent, the oldest first
pub record Told : Type 0 where
  pub coming : Option (List Came)
  pub taken : Option (List Came)
  pub attempts : Option (List Attempt)

-- the state of a link, as far as its callers see it
pub record LinkState : Type 0 where
  pub place : Option Place  -- where it is open
  pub openings : Option (List Place)  -- where it was asked to open, the oldest first, where it tells that
  pub told : Told
  pub recv_faults : ℕ  -- how often `open` or `recv` has failed; it stops at the end of u64
  pub send_faults : ℕ  -- how often `send` has failed; it stops at the end of u64

-- a link that tells none of its lists
abbrev pub told_nothing : Told
told_nothing = record { coming = None; taken = None; attempts = None }

-- an arrival within the buffer
abbrev pub FitsBuffer : Arrival → Type 0
FitsBuffer (Got _ _ len) = len ≤ DATAGRAM_MAX
FitsBuffer Idle = ⊤

-- what came, by the answer and the buffer behind it
abbrev pub came_by : List ℕ → Arrival → Came
came_by buf (Got side from len) = Datagram side from (take len buf)
came_by buf Idle = Nothing

-- two addresses, as those that a link is asked to open on
abbrev pub both_at : Ip4 → Ip4 → Place
both_at primary secondary = Both (record { primary = primary; secondary = secondary })

-- the two addresses of a link that is open
abbrev pub open_on : Ip4 → Ip4 → Option Place
open_on primary secondary = Some (both_at primary secondary)

-- one socket at a free port of an address, as a link is asked to open it
abbrev pub free_port_of : Ip4 → Place
free_port_of inside = Client (record { ip = inside; port = 0 })

-- the endpoint of the one socket of a link that is open
abbrev pub client_on : Ep → Option Place
client_on at = Some (Client at)

-- an arrival at the primary side
abbrev pub IsAtPrimary : Arrival → Type 0
IsAtPrimary (Got side from len) = side ≡ Primary
IsAtPrimary Idle = ⊤

-- what arrives at one socket has the side Primary
abbrev pub IsAtItsSide : Option Place → Arrival → Type 0
IsAtItsSide None arrival = ⊤
IsAtItsSide (Some (Both on)) arrival = ⊤
IsAtItsSide (Some (Client at)) arrival = IsAtPrimary arrival

-- what comes, as it comes to the primary side
abbrev pub at_primary : Came → Came
at_primary (Datagram side from bytes) = Datagram Primary from bytes
at_primary Nothing = Nothing

-- the first that is still to come, or nothing where none is left
abbrev pub next_came : List Came → Came
next_came coming = slice_index_or coming 0 Nothing

-- a receiving call that took what came
pub record Receives (old new : Told) (came : Came) : Type 0 where
  pub coming : Moves old.coming new.coming (λ before after. (came ≡ next_came before) × (after ≡ drop 1 before))
  pub taken : Gains old.taken new.taken came
  pub attempts : Stays old.attempts new.attempts

-- a sending call
pub record Sends (old new : Told) (made : Attempt) : Type 0 where
  pub coming : Stays old.coming new.coming
  pub taken : Stays old.taken new.taken
  pub attempts : Gains old.attempts new.attempts made

-- any other call
pub record KeepsTold (old new : Told) : Type 0 where
  pub coming : Stays old.coming new.coming
  pub taken : Stays old.taken new.taken
  pub attempts : Stays old.attempts new.attempts

-- a call that opened one socket: all that is still to come comes there
pub record TurnsToOne (old new : Told) : Type 0 where
  pub coming : Moves old.coming new.coming (λ before after. after ≡ map at_primary before)
  pub taken : Stays old.taken new.taken
  pub attempts : Stays old.attempts new.attempts
