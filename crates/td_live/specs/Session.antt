-- What `qualify` does at a link and a clock.
use Rattle.std.specs.Prelude.{◌≡◌, ◌≤◌, ◌<◌, ℕ, Bool, true, false, List, map, length, Result, Ok, Err}
use Rattle.td_base.specs.declared.endpoint.Ep.{Ep}
use Rattle.td_outside.specs.declared.fails.Failed.{Failed}
use Rattle.td_outside.specs.Clock.{ClockState}
use Rattle.td_outside.specs.Link.{Came, Attempt, Told, LinkState, KeepsTold, at_primary, client_on}
use Rattle.td_outside.specs.Moves.{Moves, GainsAll}
use Rattle.td_turns.specs.Turn.{Come, Carries, attempts_of}
use Rattle.qualify.specs.Qualification.{qualification}
use Rattle.td_live.specs.declared.asked.Asked.{Asked}
use Rattle.td_live.specs.declared.live.Live.{Live}
use Rattle.td_live.specs.declared.live_totals.LiveTotals.{LiveTotals}
use Rattle.td_live.specs.Asked.{LiveClient, live_client}
use Rattle.td_live.specs.LiveTurns.{LiveTurn, AreTurns, LiveRising, receives, phase_after, ends_broken, start_of, live_journal}
use Rattle.td_live.specs.LiveTurns.{sends_in, live_moments, live_came}
use Rattle.td_live.specs.LiveTotals.{no_attempts, with_attempts}
use Rattle.td_live.specs.Verdict.{live_of}

-- what a link that was turned to one socket took, and what was to be sent from there
pub record TakesAll (old new : Told) (came : List Came) (made : List Attempt) : Type 0 where
  pub coming : Moves old.coming new.coming (λ before after. Come (map at_primary before) came after)
  pub taken : GainsAll old.taken new.taken came
  pub attempts : GainsAll old.attempts new.attempts made

-- How the turns end. With an answer: it is that of the journal's phase, and where the phase still waits as many turns were
-- taken as were asked for. With a failure: the latest receive failed.
abbrev pub EndsTurns : LiveClient → ℕ → List LiveTurn → Result Live Failed → Type 0
EndsTurns c most turns (Ok live) = (ends_broken turns ≡ false) × (live ≡ live_of (qualification c.settings (live_journal c turns)))
    × (receives (phase_after c (live_journal c turns)) ≡ true → length turns ≡ most)
EndsTurns c most turns (Err failed) = ends_broken turns ≡ true

-- The turns of a session, where a link carried what they took and their journal's sends, each attempted once, in order: the
-- clock gave their moments, one a turn.
pub record TurnsOf (c : LiveClient) (most : ℕ) (clock clock' : ClockState)
    (carries : List Came → List Attempt → Type 0) (totals : LiveTotals) (result : Result Live Failed) : Type 0 where
  pub turns : List LiveTurn
  pub are : AreTurns c (start_of turns) turns
  pub some : 0 < length turns
  pub few : length turns ≤ most
  pub moments : LiveRising clock.last turns clock'.last
  pub read : GainsAll clock.gave clock'.gave (live_moments turns)
  pub answers : List Bool
  pub each : length answers ≡ length (sends_in (live_journal c turns).entries)
  pub told : carries (live_came turns) (attempts_of (sends_in (live_journal c turns).entries) answers)
  pub sums : totals ≡ with_attempts no_attempts answers
  pub ended : EndsTurns c most turns result

-- at a link that is open
abbrev pub RunsTurns : LiveClient → ℕ → ClockState → ClockState → Told → Told → LiveTotals → Result Live Failed → Type 0
RunsTurns c most clock clock' link link' totals result = TurnsOf c most clock clock' (λ came made. Carries link link' came made) totals result

-- from the opening on
abbrev pub Qualifies : LiveClient → ℕ → ClockState → ClockState → Told → Told → LiveTotals → Result Live Failed → Type 0
Qualifies c most clock clock' link link' totals result = TurnsOf c most clock clock' (λ came made. TakesAll link link' came made) totals result

-- A session at the endpoint that the link is open on, whose address is the one that was asked for.
pub record SessionOf (a : Asked) (l l' : LinkState) (c c' : ClockState) (totals : LiveTotals) (result : Result Live Failed) : Type 0 where
  pub at : Ep
  pub inside : at.ip ≡ a.inside
  pub place : l'.place ≡ client_on at
  pub turns : Qualifies (live_client a at) a.turns c c' l.told l'.told totals result

-- The link couldn't be opened: nothing was read, taken or sent.
pub record NoSession (l l' : LinkState) (c c' : ClockState) (totals : LiveTotals) : Type 0 where
  pub lists : KeepsTold l.told l'.told
  pub sends : l'.send_faults ≡ l.send_faults
  pub clock : c' ≡ c
  pub none : totals ≡ no_attempts
