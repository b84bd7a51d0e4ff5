-- The link in memory, as its callers see it.
use Rattle.std.specs.Prelude.{◌≡◌, ⊤, map, true, false, ℕ, Bool, if◌then◌else◌, nat_lt, ◌==◌, List, [], ◌∷◌, ◌++◌, length, take, drop, Option, Some, None}
use Rattle.std.specs.Option.{option_and_then}
use Rattle.td_outside.specs.declared.link.Place.{Place}
use Rattle.td_outside.specs.declared.link.Place.TheVariants.{Both, Client}
use Rattle.td_base.specs.declared.datagram.TheConstants.{DATAGRAM_MAX}
use Rattle.td_outside.specs.declared.mem_arrival.MemArrival.{MemArrival}
use Rattle.td_outside.specs.declared.mem_arrival.MemArrival.TheVariants.{Got, Idle}
use Rattle.td_outside.specs.Causes.{raised, count_end}
use Rattle.td_outside.specs.Calls.{Calls, fails_next, after_call}
use Rattle.td_outside.specs.Link.{Came, Datagram, Nothing, Attempt, Told, next_came, at_primary}

-- a link that receives what it was made with, and keeps as many attempts as there is room for
pub record Recorded : Type 0 where
  pub place : Option Place
  pub coming : List Came
  pub taken : Option (List Came)
  pub attempts : Option (List Attempt)
  pub room : ℕ
  pub receives : Calls
  pub sends : Calls

-- the lists that a link in memory tells
abbrev pub lists_of : Recorded → Told
lists_of link = record { coming = Some link.coming; taken = link.taken; attempts = link.attempts }

-- what an arrival gives: a longer datagram is cut
abbrev pub came_from : MemArrival → Came
came_from (Got side from bytes) = Datagram side from (take DATAGRAM_MAX bytes)
came_from Idle = Nothing

-- what is still to come to one socket comes to the primary side
abbrev pub IsOnItsSide : Option Place → List Came → Type 0
IsOnItsSide None coming = ⊤
IsOnItsSide (Some (Both on)) coming = ⊤
IsOnItsSide (Some (Client at)) coming = map at_primary coming ≡ coming

-- what was taken, told as long as the calls of recv can be counted
abbrev pub told_taken : ℕ → List Came → Option (List Came)
told_taken made taken = if nat_lt made count_end then Some taken else None

-- the attempts, told as long as there was room for each
abbrev pub told_attempts : Bool → List Attempt → Option (List Attempt)
told_attempts is_over attempts = if is_over then None else Some attempts

-- what was taken after one more call of recv, which took these
abbrev pub taken_with : Recorded → List Came → Option (List Came)
taken_with link more = option_and_then (λ taken. told_taken (raised link.receives.made) (taken ++ more)) link.taken

-- the link after a call of recv
abbrev pub received : Recorded → Recorded
received link = if fails_next link.receives
    then record link { taken = taken_with link []; receives = after_call link.receives true }
    else record link { coming = drop 1 link.coming; taken = taken_with link (next_came link.coming ∷ []); receives = after_call link.receives false }

-- the link after a call of send
abbrev pub sent : Recorded → Attempt → Recorded
sent link made = record link {
  attempts = option_and_then (λ attempts. told_attempts (length attempts == link.room) (attempts ++ made ∷ [])) link.attempts;
  sends = after_call link.sends (fails_next link.sends);
}
