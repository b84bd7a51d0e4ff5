-- What a part of a turn does: to the client, to the link, to the totals.
use Rattle.std.specs.Prelude.{◌≡◌, ◌≤◌, ◌<◌, ℕ, Bool, true, List, ◌++◌, length}
use Rattle.td_outside.specs.Causes.{Rose}
use Rattle.td_outside.specs.Link.{Came, Told}
use Rattle.teredo_node.specs.Step.{Send}
use Rattle.teredo_node.specs.Journal.{Journal}
use Rattle.td_turns.specs.Turn.{Carries, attempts_of}
use Rattle.qualify.specs.Generator.{after_words}
use Rattle.client_core.specs.declared.client.Client.{Client}
use Rattle.client_core.specs.Client.{ClientStandsFor, settings_of}
use Rattle.td_live.specs.Asked.{LiveClient}
use Rattle.td_live.specs.LiveTurns.{LiveTurn, live_moment, is_asking, is_broken, taken_in, drawn_in, sends_in, receives, phase_after, after_due, after_turn}
use Rattle.td_live.specs.LiveTotals.{with_attempts}
use Rattle.td_live.specs.declared.live_totals.LiveTotals.{LiveTotals}

-- a client with this journal, which drew the words of its entries
pub record IsAt (c : LiveClient) (own : Client) (j : Journal) : Type 0 where
  pub stands : ClientStandsFor own j
  pub settings : settings_of own ≡ c.settings
  pub place : own.rng ≡ after_words (drawn_in j.entries) c.generator

-- some client is there: a law of journals needs one
pub record IsSomewhere (own : Client) : Type 0 where
  pub client : LiveClient
  pub journal : Journal
  pub at : IsAt client own journal

-- a client that waits for its server's answer
pub record IsAwaiting (own : Client) : Type 0 where
  pub somewhere : IsSomewhere own
  pub phase : receives (phase_after somewhere.client somewhere.journal) ≡ true

-- from one journal to the next: what the entries between them send was attempted, each once, in order, and counted
pub record Advances (c : LiveClient) (j j' : Journal) (new : Client) (link link' : Told) (came : List Came) (totals totals' : LiveTotals) : Type 0 where
  pub at : IsAt c new j'
  pub sends : List Send
  pub answers : List Bool
  pub made : sends_in j'.entries ≡ sends_in j.entries ++ sends
  pub each : length answers ≡ length sends
  pub told : Carries link link' came (attempts_of sends answers)
  pub sums : totals' ≡ with_attempts totals answers

-- the count of sends that failed is greater where an attempt failed, and stays where none did
pub record FailsBy (before now failed failed' : ℕ) : Type 0 where
  pub later : before ≤ now
  pub counted : failed ≤ failed'
  pub rose : failed < failed' → Rose before now
  pub kept : failed' ≡ failed → now ≡ before

-- a turn at a moment
pub record TakesTurn (c : LiveClient) (j : Journal) (n : ℕ) (new : Client) (link link' : Told) (totals totals' : LiveTotals) (broken : Bool) : Type 0 where
  pub turn : LiveTurn
  pub moment : live_moment turn ≡ n
  pub kind : receives (phase_after c (after_due c j n)) ≡ is_asking turn
  pub fault : is_broken turn ≡ broken
  pub goes : Advances c j (after_turn c j turn) new link link' (taken_in turn) totals totals'
